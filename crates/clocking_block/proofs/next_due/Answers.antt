-- `clocking_block::next_due` meets its contract. Assumes nothing.
use Rattle.laws.proofs.Tests.{tests}
use Rattle.clocking_block.specs.Block.{next_due}
use Rattle.clocking_block.proofs.next_due.Goals as goal

pub returns-then-count-eq0 : goal.returns-then-count-eq0
unfolding next_due
returns-then-count-eq0 c = search tests

pub returns-else-count-eq0 : goal.returns-else-count-eq0
unfolding next_due
returns-else-count-eq0 c = search tests
