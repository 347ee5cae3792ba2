-- `registers::Voice::set_envelope_period` meets its contract. Assumes nothing.
use Rattle.registers.specs.Registers.{envelope_period_set}
use Rattle.registers.proofs.Voice.set_envelope_period.Goals as goal

pub returns : goal.returns
unfolding envelope_period_set
returns c = rw (c.set_period-envelope.ensures, c.pair-period.ensures)
