-- `envelope_shapes::ramp` meets its contract. Assumes nothing.
use Rattle.laws.proofs.Tests.{tests}
use Rattle.envelope_shapes.proofs.ramp.Goals as goal

pub returns-then-rises : goal.returns-then-rises
returns-then-rises c = search tests

pub returns-else-rises : goal.returns-else-rises
returns-else-rises c = search tests
