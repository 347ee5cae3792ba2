-- What register writes change. 02, request 03: "whether the stored byte changed and whether the envelope restarted"; "how many applied
-- writes changed a byte and how many restarted the envelope". Assumes nothing.
use Rattle.std.specs.Prelude.{Bool, cond, not, List, [], ◌∷◌, ℕ, zero, suc, ◌+◌, eqb, leb, get_or, set}
use Rattle.registers.specs.Registers.{masked}
use Rattle.registers.specs.Writes.{RegisterWrite}
use Rattle.write_effects.specs.declared.Effect.{Effect}
use Rattle.write_effects.specs.declared.Effects.{Effects}

-- The stored bytes after a write: "the byte is masked .. and stored"; 14 and up change nothing.
unfoldable pub bytes_after : ℕ → ℕ → List ℕ → List ℕ
bytes_after register value bytes = cond (leb 14 register) bytes (set bytes register (masked register value))

-- The byte stored at the register differs before and after.
unfoldable pub changed_by : ℕ → ℕ → List ℕ → Bool
changed_by register value bytes = not (eqb (get_or (bytes_after register value bytes) register 0) (get_or bytes register 0))

-- 13 "restarts at -64 with counter 0, even for the same byte".
abbrev pub restarted_by : ℕ → Bool
restarted_by register = eqb register 13

abbrev pub effect_of : ℕ → ℕ → List ℕ → Effect
effect_of register value bytes = record { changed = changed_by register value bytes; restarted = restarted_by register }

abbrev pub one : Bool → ℕ
one happened = cond happened 1 0

-- Of a list of applied writes: each is held to the bytes that the one before it left.
unfoldable pub changes_in : List RegisterWrite → List ℕ → ℕ
changes_in [] bytes = 0
changes_in (w ∷ writes) bytes =
    one (changed_by w.register w.value bytes) + changes_in writes (bytes_after w.register w.value bytes)

unfoldable pub restarts_in : List RegisterWrite → ℕ
restarts_in [] = 0
restarts_in (w ∷ writes) = one (restarted_by w.register) + restarts_in writes

abbrev pub effects_of : List RegisterWrite → List ℕ → Effects
effects_of writes bytes = record { changed = changes_in writes bytes; restarted = restarts_in writes }

-- the places, n of them from one on, where two lists of bytes differ
unfoldable pub differences : ℕ → ℕ → List ℕ → List ℕ → ℕ
differences zero place before after = 0
differences (suc n) place before after =
    one (not (eqb (get_or after place 0) (get_or before place 0))) + differences n (place + 1) before after
