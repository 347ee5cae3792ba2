-- The IRQ flag and the envelope's trigger. 01, "Registers and ports". Assumes nothing.
use Rattle.std.specs.Prelude.{Bool, cond, false, true}
use Rattle.answers.specs.Answers.{does}
use Rattle.chip_parts.specs.Parts.{on_voice}
use Rattle.answers.specs.declared.Answered.{Answered}
use Rattle.chip.specs.declared.Chip.{Chip}
use Rattle.envelope.specs.Envelope.{restarted}
use Rattle.generators.specs.Generators.{tones_released}
use Rattle.registers.specs.Registers.{with_envelope, with_generators}
use Rattle.registers.specs.declared.Voice.{Voice}

-- A call setting the IRQ flag off flips each pending channel once, clears its counter, and unmarks it.
abbrev pub with_irq : Bool → Voice → Voice
with_irq irq v = record { registers = v.registers; generators = v.generators; gates = v.gates; irq = irq }

unfoldable pub irq_set : Bool → Voice → Voice
irq_set on v = cond on (with_irq true v) (with_irq false (with_generators (tones_released v.generators) v))

unfoldable pub set_timer_irq_state : Bool → Chip → Answered
set_timer_irq_state on c = does (on_voice (irq_set on)) c

-- `trigger_envelope` restarts at -64, counter 0, same shape.
abbrev pub triggered : Voice → Voice
triggered v = with_envelope (restarted v.generators.envelope) v

unfoldable pub trigger_envelope : Chip → Answered
trigger_envelope c = does (on_voice triggered) c
