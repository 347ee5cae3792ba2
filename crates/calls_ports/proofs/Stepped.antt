-- `wrote_port_immediate` is what its step makes of the chip's voice and selection, and reports of it. Assumes nothing.
use mathlib.Core.Path.{◌≡◌, refl}
use mathlib.Core.Bool.{Bool, true, false, cond}
use Prim.Native.Nat.{ℕ, ◌%◌}
use Rattle.refusals.specs.Numbers.{accepted, out_of_range}
use Rattle.registers.specs.declared.Voice.{Voice}
use Rattle.registers.specs.Registers.{apply_register}
use Rattle.write_effects.specs.Effects.{changed_by, restarted_by}
use Rattle.chip.specs.declared.Chip.{Chip}
use Rattle.chip.specs.Range.{chip_in}
use Rattle.chip_parts.specs.Parts.{with_selection, with_voice}
use Rattle.answers.specs.Answers.{answered}
use Rattle.answers.specs.Reports.{bytes_of, written, wrote}
use Rattle.answers.specs.declared.Answered.{Answered}
use Rattle.answers.specs.declared.Written.{Written}
use Rattle.steps_registers.specs.RegisterSteps.{bit1_clear}
use Rattle.steps_voice.specs.declared.PortWritten.{PortWritten}
use Rattle.steps_voice.specs.VoiceSteps.{port_written, written as chosen}
use Rattle.calls_ports.specs.Ports.{write_port_immediate, wrote_port_immediate}

-- the chip after the step, and its answer
abbrev pub with-written : PortWritten → Chip → Written
with-written r c = record { chip = with_selection r.selected (with_voice r.voice c); answer = r.answer }

-- by the record's test and the port's bit; a data write makes the voice w
abbrev pub steps-port : Bool → Bool → Chip → Voice → ℕ → Bool → Bool → PortWritten
steps-port ok clear c w n changed restarted =
    cond ok
    (cond clear (chosen c.core.voice n (wrote accepted false false)) (chosen w c.core.selected (wrote accepted changed restarted)))
    (chosen c.core.voice c.core.selected (wrote out_of_range false false))

abbrev pub answers-port : Bool → Bool → Chip → Voice → ℕ → Answered
answers-port ok clear c w n = cond ok (cond clear (answered accepted (with_selection n c)) (answered accepted (with_voice w c))) (answered out_of_range c)

abbrev pub reports-port : Bool → Bool → Chip → Voice → ℕ → Bool → Bool → Written
reports-port ok clear c w n changed restarted = cond clear (written false false (answers-port ok clear c w n)) (written changed restarted (answers-port ok clear c w n))

written_same : (ok clear : Bool) (c : Chip) (w : Voice) (n : ℕ) (changed restarted : Bool)
    → with-written (steps-port ok clear c w n changed restarted) c ≡ reports-port ok clear c w n changed restarted
written_same true true c w n changed restarted = refl
written_same true false c w n changed restarted = refl
written_same false true c w n changed restarted = refl
written_same false false c w n changed restarted = refl

pub written-set : (port value : ℕ) (c : Chip) → with-written (port_written (chip_in c) c.core.voice c.core.selected port value) c ≡ wrote_port_immediate port value c
unfolding port_written write_port_immediate wrote_port_immediate
written-set port value c =
    let selected = c.core.selected in
    written_same (chip_in c) (bit1_clear port) c (apply_register selected value c.core.voice) (value % 16) (changed_by selected value (bytes_of c)) (restarted_by selected)
