-- One write more: what it leaves to settle is what settling its register alone does after those before it. Assumes nothing.
use mathlib.Core.Bool.{Bool, true, false, cond}
use mathlib.Core.List.{List}
use mathlib.Core.Path.{◌≡◌, refl, ap, ◌∙◌}
use Prim.Native.Nat.{ℕ, ◌+◌, ◌^◌}
use native.Mathlib.Omega.{arith}
use lib.ListN.{get_or, set}
use lib.Seq.{get_or-set_other}
use Rattle.envelope.specs.declared.Envelope.{Envelope}
use Rattle.gates.specs.Gates.{gates_from}
use Rattle.registers.specs.Registers.{pair_in}
use Rattle.settling.specs.declared.Settings.{Settings}
use Rattle.stored_bytes.specs.Marks.{marked, unwritten}
use Rattle.settling.specs.Settling.{envelope_period_after, shape_after, settled_of}
use Rattle.stored_bytes.proofs.Marks.{unwritten-marked}

-- a value that some registers set: made anew from the bytes now, where the write is to one of them; else as it was
chosen_on : {A : Type 0} (this before : Bool) (s old now : A) → (this ≡ true → now ≡ old)
    → cond (cond this before false) s now ≡ cond this (cond before s old) now
chosen_on true before s old now h = ap (cond before s) (h refl)
chosen_on false before s old now h = refl

envelope-on : (this before that already : Bool) (e : Envelope) (old now shape latest : ℕ) → (this ≡ true → now ≡ old) → (that ≡ true → latest ≡ shape)
    → shape_after (cond that already false) latest (envelope_period_after (cond this before false) now e)
    ≡ shape_after that latest (envelope_period_after this now (shape_after already shape (envelope_period_after before old e)))
envelope-on this before true true e old now shape latest h k = rw (chosen_on this before e.period old now h)
envelope-on this before true false e old now shape latest h k = rw (chosen_on this before e.period old now h, k refl)
envelope-on this before false true e old now shape latest h k = rw (chosen_on this before e.period old now h)
envelope-on this before false false e old now shape latest h k = rw (chosen_on this before e.period old now h)

-- a register without a mark is not one that has it
other : (registers register place : ℕ) → unwritten registers (2 ^ place) ≡ false → unwritten registers (2 ^ register) ≡ true → place ≡ register → ⊥
other m r j its none e =
    let same : unwritten m (2 ^ j) ≡ unwritten m (2 ^ r) = ap (λ (i : ℕ). unwritten m (2 ^ i)) e in
    let z : ◌≡◌ {A = ℕ} 0 1 = cc in
    omega arith

module _ (bytes : List ℕ) (register byte marks : ℕ) where
  abbrev after : List ℕ
  after = set bytes register byte

  -- this write is to none of some registers
  abbrev spared : ℕ → Bool
  spared registers = unwritten registers (2 ^ register)

  byte-on : (registers place : ℕ) → unwritten registers (2 ^ place) ≡ false → spared registers ≡ true → get_or after place 0 ≡ get_or bytes place 0
  byte-on m j its none = get_or-set_other bytes register j byte 0 (other m register j its none)

  pair-on : (registers low : ℕ) → unwritten registers (2 ^ low) ≡ false → unwritten registers (2 ^ (low + 1)) ≡ false → spared registers ≡ true
      → pair_in low after ≡ pair_in low bytes
  pair-on m low its both none = rw (byte-on m low its none, byte-on m (low + 1) both none)

  value_on : {A : Type 0} (registers : ℕ) (s old now : A) → (spared registers ≡ true → now ≡ old)
      → cond (unwritten registers (marked register marks)) s now ≡ cond (spared registers) (cond (unwritten registers marks) s old) now
  value_on m s old now h =
      ap (λ (u : Bool). cond u s now) (unwritten-marked m register marks) ∙ chosen_on (spared m) (unwritten m marks) s old now h

  pub settled_on : (s : Settings) → settled_of after (marked register marks) s ≡ settled_of after (2 ^ register) (settled_of bytes marks s)
  unfolding settled_of
  settled_on s =
      rw (
        value_on (2 ^ 0 + 2 ^ 1) s.a.period (pair_in 0 bytes) (pair_in 0 after) (pair-on (2 ^ 0 + 2 ^ 1) 0 refl refl),
        value_on (2 ^ 2 + 2 ^ 3) s.b.period (pair_in 2 bytes) (pair_in 2 after) (pair-on (2 ^ 2 + 2 ^ 3) 2 refl refl),
        value_on (2 ^ 4 + 2 ^ 5) s.c.period (pair_in 4 bytes) (pair_in 4 after) (pair-on (2 ^ 4 + 2 ^ 5) 4 refl refl),
        value_on (2 ^ 6) s.noise (get_or bytes 6 0) (get_or after 6 0) (byte-on (2 ^ 6) 6 refl),
        value_on (2 ^ 7) s.gates (gates_from (get_or bytes 7 0)) (gates_from (get_or after 7 0)) (λ none. ap gates_from (byte-on (2 ^ 7) 7 refl none)),
        unwritten-marked (2 ^ 11 + 2 ^ 12) register marks,
        unwritten-marked (2 ^ 13) register marks,
        envelope-on (spared (2 ^ 11 + 2 ^ 12)) (unwritten (2 ^ 11 + 2 ^ 12) marks) (spared (2 ^ 13)) (unwritten (2 ^ 13) marks) s.envelope
            (pair_in 11 bytes) (pair_in 11 after) (get_or bytes 13 0) (get_or after 13 0) (pair-on (2 ^ 11 + 2 ^ 12) 11 refl refl) (byte-on (2 ^ 13) 13 refl),
      )
