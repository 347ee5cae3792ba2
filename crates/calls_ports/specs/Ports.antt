-- The ports. 01, "Registers and ports". Assumes nothing.
use Rattle.std.specs.Prelude.{◌%◌, ℕ, ltb, cond, false}
use Rattle.answers.specs.Answers.{answered, byte_answer, unless22}
use Rattle.chip_parts.specs.Parts.{on_voice, voice_of, with_queue, with_selection}
use Rattle.answers.specs.Reports.{bytes_of, written}
use Rattle.answers.specs.declared.Answered.{Answered}
use Rattle.answers.specs.declared.Byte.{Byte}
use Rattle.answers.specs.declared.Written.{Written}
use Rattle.chip.specs.declared.Chip.{Chip}
use Rattle.queue.specs.Waiting.{push}
use Rattle.queue.specs.declared.Pushed.{Pushed}
use Rattle.queue.specs.declared.Write.{Write}
use Rattle.chip.specs.Range.{chip_in}
use Rattle.refusals.specs.Numbers.{accepted, out_of_range}
use Rattle.registers.specs.Registers.{apply_register, byte_at}
use Rattle.write_effects.specs.Effects.{changed_by, restarted_by}
pub use Rattle.steps_registers.specs.RegisterSteps.{bit1_clear}

-- "the write with the current stamp and selected number", 14 and 15 included
abbrev pub stamped : ℕ → Chip → Write
stamped value c = record { stamp = c.core.stamp; register = c.core.selected; value = value }

abbrev pub queued : Chip → Pushed → Answered
queued c p = answered p.no (with_queue p.queue c)

-- Port bit 1 clear selects (value modulo 16) at once; set, it queues the write.
unfoldable pub write_port : ℕ → ℕ → Chip → Answered
write_port port value c =
    unless22 c
    (cond (bit1_clear port) (answered accepted (with_selection (value % 16) c))
    (queued c (push (stamped value c) c.queue)))

-- `write_port_immediate` skips the queue.
unfoldable pub write_port_immediate : ℕ → ℕ → Chip → Answered
write_port_immediate port value c =
    unless22 c
    (cond (bit1_clear port) (answered accepted (with_selection (value % 16) c))
    (answered accepted (on_voice (apply_register c.core.selected value) c)))

-- What it changed. 02, request 03: selecting changes nothing.
unfoldable pub wrote_port_immediate : ℕ → ℕ → Chip → Written
wrote_port_immediate port value c =
    let a = write_port_immediate port value c in
    cond (bit1_clear port) (written false false a)
    (written (changed_by c.core.selected value (bytes_of c)) (restarted_by c.core.selected) a)

-- `read_port` gives the stored byte if bit 1 is clear and the selection is below 14, else 0xFF.
unfoldable pub read_port : ℕ → Chip → Byte
read_port port c =
    cond (chip_in c)
    (cond (bit1_clear port)
    (cond (ltb c.core.selected 14) (byte_answer accepted (byte_at c.core.selected (voice_of c))) (byte_answer accepted 0xff))
    (byte_answer accepted 0xff))
    (byte_answer out_of_range 0)
