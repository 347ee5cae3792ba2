-- The two calls of one write: by whether the record passes its test, and whether the port selects. Assumes nothing.
use mathlib.Core.Bool.{Bool, true, false, cond}
use mathlib.Core.Path.{◌≡◌, refl, ◌∙◌}
use Prim.Native.Nat.{ℕ, ◌%◌}
use native.Mathlib.Omega.{arith}
use lib.ListN.{get_or}
use Rattle.refusals.specs.Numbers.{accepted, out_of_range}
use Rattle.registers.specs.Registers.{apply_register}
use Rattle.write_effects.specs.Effects.{changed_by, restarted_by}
use Rattle.write_effects.proofs.Laws.{applied-bytes}
use Rattle.chip.specs.declared.Chip.{Chip}
use Rattle.chip.specs.Range.{chip_in}
use Rattle.chip_parts.specs.Parts.{on_voice, voice_of, with_selection}
use Rattle.answers.specs.Answers.{answered}
use Rattle.answers.specs.Reports.{bytes_of, written}
use Rattle.calls_registers.specs.Stored.{write_register, wrote_register}
use Rattle.calls_ports.specs.Ports.{bit1_clear, write_port_immediate, wrote_port_immediate}
use Rattle.dump_writes.specs.Shape.{Untouched, Restarted}
use Rattle.laws_effects.specs.Claims.{OneWrite}
use Rattle.laws_effects.proofs.Bytes.{unchanged, changed}
use Rattle.laws_effects.proofs.Restarts.{restarted, same, untouched}

never : {P : Type 0} → false ≡ true → P
never {P} e = let z : ◌≡◌ {A = ℕ} 0 1 = cc in absurd (omega arith)

-- what the report says of a step holds of the call; a record that fails the test stays as it is, with no and no
module _ (c d : Chip) (register : ℕ) (x y : Bool) where
  passed : (x ≡ false → bytes_of d ≡ bytes_of c) → (x ≡ true → get_or (bytes_of d) register 0 ≡ get_or (bytes_of c) register 0 → ⊥)
      → (y ≡ false → Untouched (voice_of c) (voice_of d)) → (y ≡ true → Restarted (voice_of d))
      → OneWrite c register (answered accepted d) (written x y (answered accepted d))
  passed f g h k = record { as_before = refl; refused = λ n. absurd (n refl); unchanged = f; changed = g; runs_on = h; restarted = k }

  failed : OneWrite c register (answered out_of_range c) (written x y (answered out_of_range c))
  failed =
      record {
        as_before = refl;
        refused = λ _. (refl, refl);
        unchanged = λ _. refl;
        changed = λ e. never e;
        runs_on = λ _. same (voice_of c);
        restarted = λ e. never e;
      }

  told : (t : Bool) → OneWrite c register (answered accepted d) (written x y (answered accepted d))
      → let a = cond t (answered accepted d) (answered out_of_range c) in OneWrite c register a (written x y a)
  told true p = p
  told false p = failed

applies : (register value : ℕ) (c : Chip) (t : Bool)
    → let a = cond t (answered accepted (on_voice (apply_register register value) c)) (answered out_of_range c) in
    OneWrite c register a (written (changed_by register value (bytes_of c)) (restarted_by register) a)
applies register value c t =
    let bytes = applied-bytes register value (voice_of c) in
    let d = on_voice (apply_register register value) c in
    let x = changed_by register value (bytes_of c) in
    told c d register x (restarted_by register) t
    (passed c d register x (restarted_by register)
    (λ e. bytes ∙ unchanged register value (bytes_of c) e)
    (λ e s. changed register value (bytes_of c) e (rw bytes at s))
    (λ e. untouched register value (voice_of c) e)
    (λ e. restarted register value (voice_of c) e))

pub write-register : (register value : ℕ) (c : Chip) → OneWrite c register (write_register register value c) (wrote_register register value c)
unfolding write_register wrote_register
write-register register value c = applies register value c (chip_in c)

-- a port whose bit 1 is clear selects
selects : (register value : ℕ) (c : Chip) (t : Bool)
    → let a = cond t (answered accepted (with_selection (value % 16) c)) (answered out_of_range c) in OneWrite c register a (written false false a)
selects register value c t =
    let d = with_selection (value % 16) c in
    told c d register false false t (passed c d register false false (λ _. refl) (λ e. never e) (λ _. same (voice_of c)) (λ e. never e))

pub write-port-immediate : (port value : ℕ) (c : Chip)
    → OneWrite c c.core.selected (write_port_immediate port value c) (wrote_port_immediate port value c)
unfolding write_port_immediate wrote_port_immediate
write-port-immediate port value c = by_both (bit1_clear port)
  where
    by_both : (b : Bool)
        → let a = cond (chip_in c)
        (cond b (answered accepted (with_selection (value % 16) c))
        (answered accepted (on_voice (apply_register c.core.selected value) c)))
        (answered out_of_range c)
        in
        OneWrite c c.core.selected a
        (cond b (written false false a)
        (written (changed_by c.core.selected value (bytes_of c)) (restarted_by c.core.selected) a))
    by_both true = selects c.core.selected value c (chip_in c)
    by_both false = applies c.core.selected value c (chip_in c)
