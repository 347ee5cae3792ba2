-- `registers::Voice::set_noise_period` meets its contract. Assumes nothing.
use Rattle.registers.specs.Registers.{noise_period_set}
use Rattle.registers.proofs.Voice.set_noise_period.Goals as goal

pub returns : goal.returns
unfolding noise_period_set
returns c = rw c.set_period-noise.ensures
