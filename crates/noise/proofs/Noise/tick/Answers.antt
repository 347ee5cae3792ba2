-- `noise::Noise::tick` meets its contract. Assumes nothing.
use Rattle.laws.proofs.Tests.{tests}
use Rattle.noise.proofs.Hiss.{counts, steps}
use Rattle.noise.specs.Noise.{noise_tick, output_by, register_step}
use Rattle.noise.proofs.Noise.tick.Goals as goal

pub returns-then-self : goal.returns-then-self
unfolding noise_tick register_step output_by
returns-then-self c = search tests

pub returns-then-count-at_least_one : goal.returns-then-count-at_least_one
returns-then-count-at_least_one c = search counts

pub returns : goal.returns
returns c = search steps
