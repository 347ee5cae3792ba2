-- Register writes and reads. 01, "Registers and ports". Assumes nothing.
use Rattle.std.specs.Prelude.{ℕ, ltb, replicate, cond, List}
use Rattle.answers.specs.Answers.{byte_answer, does}
use Rattle.chip_parts.specs.Parts.{on_voice, voice_of}
use Rattle.answers.specs.Reports.{applied, bytes_of, written}
use Rattle.answers.specs.declared.Answered.{Answered}
use Rattle.answers.specs.declared.Applied.{Applied}
use Rattle.answers.specs.declared.Byte.{Byte}
use Rattle.answers.specs.declared.Bytes.{Bytes}
use Rattle.answers.specs.declared.Written.{Written}
use Rattle.chip.specs.declared.Chip.{Chip}
use Rattle.chip.specs.Range.{chip_in}
use Rattle.refusals.specs.Numbers.{accepted, out_of_range}
use Rattle.registers.specs.Registers.{apply_register, byte_at}
use Rattle.registers.specs.Writes.{loaded, load_writes}
use Rattle.write_effects.specs.Effects.{changed_by, restarted_by}
use Rattle.steps_registers.specs.RegisterSteps.{padded}

unfoldable pub write_register : ℕ → ℕ → Chip → Answered
write_register register value c = does (on_voice (apply_register register value)) c

-- What that write changed. 02, request 03.
unfoldable pub wrote_register : ℕ → ℕ → Chip → Written
wrote_register register value c = written (changed_by register value (bytes_of c)) (restarted_by register) (write_register register value c)

-- Reading registers 14 and up gives 0.
unfoldable pub read_register : ℕ → Chip → Byte
read_register register c =
    cond (chip_in c)
    (cond (ltb register 14) (byte_answer accepted (byte_at register (voice_of c))) (byte_answer accepted 0))
    (byte_answer out_of_range 0)

-- `load_registers` writes bytes 0 to 13 in order.
unfoldable pub load_registers : List ℕ → Chip → Answered
load_registers bytes c = does (on_voice (loaded bytes)) c

-- Those fourteen writes, counted.
unfoldable pub loaded_registers : List ℕ → Chip → Applied
loaded_registers bytes c = applied (load_writes bytes) c (load_registers bytes c)

unfoldable pub dump_registers : Chip → Bytes
dump_registers c =
    cond (chip_in c) (record { no = accepted; bytes = padded (voice_of c).registers }) (record { no = out_of_range; bytes = replicate 16 0 })
