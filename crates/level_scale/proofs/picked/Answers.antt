-- `level_scale::picked` meets its contract: the code makes the test of `picked`. Assumes nothing.
use Rattle.laws.proofs.Tests.{tests}
use Rattle.level_scale.specs.Scale.{picked}
use Rattle.level_scale.proofs.picked.Goals as goal

pub returns-then-source-eq-BY_ENVELOPE : goal.returns-then-source-eq-BY_ENVELOPE
unfolding picked
returns-then-source-eq-BY_ENVELOPE c = search tests

pub returns-else-source-eq-BY_ENVELOPE : goal.returns-else-source-eq-BY_ENVELOPE
unfolding picked
returns-else-source-eq-BY_ENVELOPE c = search tests
