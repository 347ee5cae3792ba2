-- `clocking_run::goes_on` meets its contract: the sum is asked for only where there is room. Assumes nothing.
use Rattle.laws.proofs.Tests.{tests}
use Rattle.clocking_run.specs.Run.{goes_on}
use Rattle.clocking_run.proofs.goes_on.Goals as goal

pub overflow_add-result : goal.overflow_add-result
overflow_add-result c = record { fits = c.requires c.if-room.true }

pub returns-then-room : goal.returns-then-room
unfolding goes_on
returns-then-room c = search tests

pub returns-else-room : goal.returns-else-room
unfolding goes_on
returns-else-room c = search tests
