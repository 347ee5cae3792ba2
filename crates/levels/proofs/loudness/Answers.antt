-- `levels::loudness` meets its contract: the lookup gives the level, and the test says whether it is halved. Assumes nothing.
use Rattle.laws.proofs.Tests.{tests}
use Rattle.levels.specs.Levels.{loudness_of}
use Rattle.levels.proofs.loudness.Goals as goal

pub returns-then-half : goal.returns-then-half
unfolding loudness_of
returns-then-half c = rw c.level-level.ensures (search tests)

pub returns-else-half : goal.returns-else-half
unfolding loudness_of
returns-else-half c = rw c.level-level.ensures (search tests)
