-- `registers::Voice::set_tone_period` meets its contract. Assumes nothing.
use Rattle.registers.specs.Registers.{tone_period_set}
use Rattle.registers.proofs.Voice.set_tone_period.Goals as goal

pub returns : goal.returns
unfolding tone_period_set
returns c = rw (c.set_tone_period-generators.ensures, c.pair-period.ensures)
