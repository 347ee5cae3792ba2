-- Register writes as calls on a chip in range: each is accepted, and together they are the writes in order. Assumes nothing.
use mathlib.Core.Bool.{Bool, true, false, not, cond}
use mathlib.Core.List.{List, [], ◌∷◌, map}
use mathlib.Core.Path.{◌≡◌, refl, ap, ◌∙◌}
use Prim.Native.Nat.{ℕ}
use lib.Dec.{eqb}
use lib.ListN.{length}
use Rattle.refusals.specs.Numbers.{accepted}
use Rattle.text_fields.specs.Fields.{hex_byte}
use Rattle.registers.specs.Registers.{apply_register}
use Rattle.registers.specs.Writes.{RegisterWrite, applied_in_order, registers_from}
use Rattle.chip.specs.declared.Chip.{Chip}
use Rattle.chip.proofs.InRange.{InRange, passes}
use Rattle.chip_parts.specs.Parts.{on_voice}
use Rattle.answers.specs.Answers.{answered}
use Rattle.answers.specs.declared.Answered.{Answered}
use Rattle.calls_registers.specs.Stored.{write_register}
use Rattle.dump_writes.specs.Writes.{registers_written, frame_writes}
use Rattle.dump_frames.specs.Frame.{frame_chip}
use Rattle.laws_promises.specs.History.{Call, write-register, answers, after, Ledger, restarts, enters, entered, ledger}
use Rattle.laws_promises.proofs.DemandKept.{in-range}
use Rattle.laws_histories.specs.Histories.{AllAccepted, write_calls}
use Rattle.laws_histories.proofs.Joining.{either-swap}

-- one write
module _ (c : Chip) (h : InRange c) (register value : ℕ) where
  abbrev next : Chip
  next = on_voice (apply_register register value) c

  write-answers : answers (write-register register value) c ≡ answered accepted next
  unfolding answers write_register
  write-answers = rw (passes h)

  write-range : InRange next
  write-range = rw write-answers at (in-range (write-register register value) c h)

  write-enters : (l : Ledger) → entered (write-register register value) c l ≡ restarts (eqb register 13) l
  unfolding entered enters
  write-enters l = rw (ap (λ (a : Answered). a.no) write-answers)

-- some writes
abbrev calls : List RegisterWrite → List Call
calls ws = map (λ (w : RegisterWrite). write-register w.register w.value) ws

abbrev restart_among : List RegisterWrite → Bool
restart_among [] = false
restart_among (w ∷ ws) = cond (eqb w.register 13) true (restart_among ws)

record InOrder (ws : List RegisterWrite) (c : Chip) (l : Ledger) : Type 0 where
  each : AllAccepted (calls ws) c
  chip : after (calls ws) c ≡ on_voice (applied_in_order ws) c
  entries : ledger (calls ws) c l ≡ restarts (restart_among ws) l

restarts-twice : (p q : Bool) (l : Ledger) → restarts q (restarts p l) ≡ restarts (cond p true q) l
restarts-twice p q l = rw (either-swap p q l.restarted)

in_order : (ws : List RegisterWrite) (c : Chip) (l : Ledger) → InRange c → InOrder ws c l
unfolding after ledger applied_in_order
in_order [] c l h = record { each = tt; chip = refl; entries = refl }
in_order (w ∷ ws) c l h =
    let x = write-register w.register w.value in
    let d = next c h w.register w.value in
    let restart = eqb w.register 13 in
    let a = write-answers c h w.register w.value in
    let left : (answers x c).chip ≡ d = ap (λ (b : Answered). b.chip) a in
    let rest = in_order ws d (restarts restart l) (write-range c h w.register w.value) in
    record {
      each = (ap (λ (b : Answered). b.no) a, rw left rest.each);
      chip = ap (after (calls ws)) left ∙ rest.chip;
      entries =
          ap (ledger (calls ws) (answers x c).chip) (write-enters c h w.register w.value l)
          ∙ ap (λ (y : Chip). ledger (calls ws) y (restarts restart l)) left
          ∙ rest.entries
          ∙ restarts-twice restart (restart_among ws) l;
    }

-- a frame's: R13 is among them unless its byte is ff
frame-restart : (ff : Bool) (byte : ℕ → ℕ) → restart_among (registers_from (cond ff 13 14) 0 byte) ≡ not ff
unfolding registers_from
frame-restart true byte = refl
frame-restart false byte = refl

frame-number : (ff : Bool) (byte : ℕ → ℕ) → length (calls (registers_from (cond ff 13 14) 0 byte)) ≡ cond ff 13 14
unfolding registers_from
frame-number true byte = refl
frame-number false byte = refl

pub write-number : (value : List ℕ) → length (write_calls value) ≡ registers_written value
unfolding write_calls frame_writes registers_written
write-number value = frame-number (eqb (hex_byte value 13) 255) (hex_byte value)

pub record Written (value : List ℕ) (c : Chip) (l : Ledger) : Type 0 where
  pub each : AllAccepted (write_calls value) c
  pub chip : after (write_calls value) c ≡ frame_chip value c
  pub entries : ledger (write_calls value) c l ≡ restarts (not (eqb (hex_byte value 13) 255)) l

pub written : (value : List ℕ) (c : Chip) (l : Ledger) → InRange c → Written value c l
unfolding write_calls frame_chip frame_writes registers_written
written value c l h =
    let ff = eqb (hex_byte value 13) 255 in
    let w = in_order (frame_writes value) c l h in
    record { each = w.each; chip = w.chip; entries = rw (← frame-restart ff (hex_byte value)) w.entries }
