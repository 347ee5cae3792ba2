-- What the register writes change of a lent record, and what they report. 01, "Registers and ports"; 02, request 03. Assumes nothing.
use Rattle.std.specs.Prelude.{Bool, cond, false, List, ℕ, ◌%◌}
use Rattle.refusals.specs.Numbers.{accepted, out_of_range}
use Rattle.registers.specs.declared.Voice.{Voice}
use Rattle.registers.specs.Registers.{apply_register}
use Rattle.registers.specs.Writes.{load_writes, loaded}
use Rattle.write_effects.specs.Effects.{changed_by, changes_in, restarted_by, restarts_in}
use Rattle.answers.specs.declared.Counts.{Counts}
use Rattle.answers.specs.declared.Wrote.{Wrote}
use Rattle.answers.specs.Reports.{counts, wrote}
use Rattle.steps_registers.specs.RegisterSteps.{bit1_clear}
use Rattle.steps_voice.specs.declared.PortWritten.{PortWritten}
use Rattle.steps_voice.specs.declared.Voiced.{Voiced}

-- The voice after the write, and what the write changed; a record out of range keeps its voice.
unfoldable pub voiced : Bool → ℕ → ℕ → Voice → Voiced Wrote
voiced ok register value voice =
    cond ok
    (record {
      voice = apply_register register value voice;
      answer = wrote accepted (changed_by register value voice.registers) (restarted_by register);
    })
    (record { voice = voice; answer = wrote out_of_range false false })

-- The voice with bytes 0 to 13 written in order, and the counts over those fourteen writes.
unfoldable pub voiced_all : Bool → List ℕ → Voice → Voiced Counts
voiced_all ok bytes voice =
    cond ok
    (record {
      voice = loaded bytes voice;
      answer = counts accepted (changes_in (load_writes bytes) voice.registers) (restarts_in (load_writes bytes));
    })
    (record { voice = voice; answer = counts out_of_range 0 0 })

abbrev pub written : Voice → ℕ → Wrote → PortWritten
written voice selected answer = record { voice = voice; selected = selected; answer = answer }

-- Port bit 1 clear selects (value modulo 16) at once, and no byte changes; set, the selected register is written at once.
unfoldable pub port_written : Bool → Voice → ℕ → ℕ → ℕ → PortWritten
port_written ok voice selected port value =
    cond ok
    (cond (bit1_clear port) (written voice (value % 16) (wrote accepted false false))
    (written (apply_register selected value voice) selected
    (wrote accepted (changed_by selected value voice.registers) (restarted_by selected))))
    (written voice selected (wrote out_of_range false false))
