-- `level_scale::lifted` meets its contract: the code makes the test of `lifted`. Assumes nothing.
use Rattle.laws.proofs.Tests.{tests}
use Rattle.level_scale.specs.Scale.{lifted}
use Rattle.level_scale.proofs.lifted.Goals as goal

pub returns-then-volume-eq0 : goal.returns-then-volume-eq0
unfolding lifted
returns-then-volume-eq0 c = search tests

pub returns-else-volume-eq0 : goal.returns-else-volume-eq0
unfolding lifted
returns-else-volume-eq0 c = search tests
