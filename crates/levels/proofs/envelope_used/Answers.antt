-- `levels::envelope_used` meets its contract: the code makes the test of `envelope_used`. Assumes nothing.
use Rattle.laws.proofs.Tests.{tests}
use Rattle.levels.specs.Levels.{envelope_used}
use Rattle.levels.proofs.envelope_used.Goals as goal

pub returns-then-variant-eq2 : goal.returns-then-variant-eq2
unfolding envelope_used
returns-then-variant-eq2 c = search tests

pub returns-else-variant-eq2 : goal.returns-else-variant-eq2
unfolding envelope_used
returns-else-variant-eq2 c = search tests
