-- `levels::fixed_level` meets its contract: the code makes the tests of `fixed_level`. Assumes nothing.
use Rattle.laws.proofs.Tests.{tests}
use Rattle.levels.specs.Levels.{fixed_level}
use Rattle.levels.proofs.fixed_level.Goals as goal

pub returns-then-volume-eq0 : goal.returns-then-volume-eq0
unfolding fixed_level
returns-then-volume-eq0 c = search tests

pub returns-else-volume-eq0 : goal.returns-else-volume-eq0
unfolding fixed_level
returns-else-volume-eq0 c = search tests

pub returns-else-variant-eq1 : goal.returns-else-variant-eq1
unfolding fixed_level
returns-else-variant-eq1 c = search tests
