-- Writes that do not wait: the ledger notes the restart that the call reports, and enters nothing else. Assumes nothing.
use mathlib.Core.Bool.{Bool, true, false, cond}
use mathlib.Core.List.{List, [], ◌∷◌}
use mathlib.Core.Path.{◌≡◌, refl, ap, ◌∙◌}
use Prim.Native.Nat.{ℕ, ◌%◌}
use lib.Dec.{eqb, ltb}
use Rattle.refusals.specs.Numbers.{accepted, out_of_range}
use Rattle.registers.specs.Registers.{apply_register}
use Rattle.registers.specs.Writes.{loaded, load_writes, registers_from}
use Rattle.write_effects.specs.Effects.{changed_by, restarted_by, restarts_in}
use Rattle.queue.specs.declared.Write.{Write}
use Rattle.chip.specs.declared.Chip.{Chip}
use Rattle.chip.specs.Range.{chip_in}
use Rattle.chip_parts.specs.Parts.{on_voice, with_selection}
use Rattle.answers.specs.Answers.{answered}
use Rattle.answers.specs.Reports.{applied, bytes_of, written}
use Rattle.answers.specs.declared.Answered.{Answered}
use Rattle.calls_registers.specs.Stored.{load_registers, loaded_registers, write_register, wrote_register}
use Rattle.calls_ports.specs.Ports.{bit1_clear, stamped, write_port_immediate, wrote_port_immediate}
use Rattle.laws_promises.specs.History.{Ledger, answers, entered, enters, is_accepted, load-registers, restart_in, restarts, write-port-immediate, write-register}

-- a record that passes its test, or not
module _ (c d : Chip) (l : Ledger) where
  abbrev Answer : Bool → Answered
  Answer t = cond t (answered accepted d) (answered out_of_range c)

  one-noted : (t changed restarted : Bool)
      → cond (is_accepted (Answer t).no) (restarts restarted l) l ≡ restarts (written changed restarted (Answer t)).answer.restarted l
  one-noted true changed restarted = refl
  one-noted false changed restarted = refl

  load-noted : (t : Bool) (bytes : List ℕ)
      → cond (is_accepted (Answer t).no) (restarts true l) l ≡ restarts (ltb 0 (applied (load_writes bytes) c (Answer t)).answer.restarted) l
  unfolding registers_from restarts_in
  load-noted true bytes = refl
  load-noted false bytes = refl

  -- a list of the one write
  data-noted : (t changed : Bool) (write : Write)
      → cond (is_accepted (Answer t).no) (restarts (restart_in (write ∷ [])) l) l
      ≡ restarts (written changed (restarted_by write.register) (Answer t)).answer.restarted l
  data-noted t changed write =
      ap (λ (r : Bool). cond (is_accepted (Answer t).no) (restarts r l) l) (itself (eqb write.register 13))
      ∙ one-noted t changed (eqb write.register 13)
    where
      itself : (b : Bool) → cond b true false ≡ b
      itself true = refl
      itself false = refl

pub write-entered : (register value : ℕ) (c : Chip) (l : Ledger)
    → entered (write-register register value) c l ≡ restarts (wrote_register register value c).answer.restarted l
unfolding entered answers enters write_register wrote_register
write-entered register value c l =
    one-noted c (on_voice (apply_register register value) c) l (chip_in c) (changed_by register value (bytes_of c)) (restarted_by register)

pub load-entered : (bytes : List ℕ) (c : Chip) (l : Ledger)
    → entered (load-registers bytes) c l ≡ restarts (ltb 0 (loaded_registers bytes c).answer.restarted) l
unfolding entered answers enters load_registers loaded_registers
load-entered bytes c l = load-noted c (on_voice (loaded bytes) c) l (chip_in c) bytes

pub port-entered : (port value : ℕ) (c : Chip) (l : Ledger)
    → entered (write-port-immediate port value) c l ≡ restarts (wrote_port_immediate port value c).answer.restarted l
unfolding entered answers enters write_port_immediate wrote_port_immediate
port-entered port value c l = by_both (bit1_clear port)
  where
    by_both : (select : Bool)
        → let a = cond (chip_in c)
        (cond select (answered accepted (with_selection (value % 16) c))
        (answered accepted (on_voice (apply_register c.core.selected value) c)))
        (answered out_of_range c)
        in
        let told = cond select (written false false a)
        (written (changed_by c.core.selected value (bytes_of c)) (restarted_by c.core.selected) a)
        in
        cond (is_accepted a.no) (restarts (restart_in (cond select [] (stamped value c ∷ []))) l) l ≡ restarts told.answer.restarted l
    by_both true = one-noted c (with_selection (value % 16) c) l (chip_in c) false false
    by_both false =
        data-noted c (on_voice (apply_register c.core.selected value) c) l (chip_in c)
        (changed_by c.core.selected value (bytes_of c)) (stamped value c)
