-- `levels::level_used` meets its contract: the code tests the same bit as `level_used`. Assumes nothing.
use Rattle.laws.proofs.Tests.{tests}
use Rattle.levels.specs.Levels.{level_used}
use Rattle.levels.proofs.level_used.Goals as goal

pub returns-then-volume-eq1 : goal.returns-then-volume-eq1
unfolding level_used
returns-then-volume-eq1 c = search tests

pub returns-else-volume-eq1 : goal.returns-else-volume-eq1
unfolding level_used
returns-else-volume-eq1 c = search tests
