-- `level_scale::Scale::source` meets its contract: the code tests the same bit as `source_of`. Assumes nothing.
use Rattle.laws.proofs.Tests.{tests}
use Rattle.level_scale.specs.Scale.{source_of}
use Rattle.level_scale.proofs.Scale.source.Goals as goal

pub returns-then-volume-eq1 : goal.returns-then-volume-eq1
unfolding source_of
returns-then-volume-eq1 c = search tests

pub returns-else-volume-eq1 : goal.returns-else-volume-eq1
unfolding source_of
returns-else-volume-eq1 c = search tests
