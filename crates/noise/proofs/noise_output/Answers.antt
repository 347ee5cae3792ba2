-- `noise::noise_output` meets its contract. Assumes nothing.
use Rattle.laws.proofs.Tests.{tests}
use Rattle.noise.specs.Noise.{output_by}
use Rattle.noise.proofs.noise_output.Goals as goal

pub returns-then-register-eq1 : goal.returns-then-register-eq1
unfolding output_by
returns-then-register-eq1 c = search tests

pub returns-else-register-eq1 : goal.returns-else-register-eq1
unfolding output_by
returns-else-register-eq1 c = search tests
