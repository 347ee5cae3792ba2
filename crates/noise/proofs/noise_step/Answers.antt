-- `noise::noise_step` meets its contract. Assumes nothing.
use Rattle.laws.proofs.Tests.{tests}
use Rattle.noise.specs.Noise.{register_step}
use Rattle.noise.proofs.noise_step.Goals as goal

pub returns-then-register-eq1 : goal.returns-then-register-eq1
unfolding register_step
returns-then-register-eq1 c = search tests

pub returns-else-register-eq1 : goal.returns-else-register-eq1
unfolding register_step
returns-else-register-eq1 c = search tests
