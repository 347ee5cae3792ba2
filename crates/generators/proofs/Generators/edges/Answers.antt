-- `generators::Generators::edges` meets its contract. Assumes nothing.
use Rattle.laws.proofs.Tests.{tests}
use Rattle.generators.specs.Generators.{edges_of}
use Rattle.generators.proofs.Generators.edges.Goals as goal

pub returns : goal.returns
unfolding edges_of
returns c = search tests
