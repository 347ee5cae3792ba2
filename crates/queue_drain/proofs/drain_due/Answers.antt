-- `queue_drain::drain_due` meets its contract: the invariant and its steps are laws of `proofs/Draining.antt`. Assumes nothing.
use Rattle.queue_drain.proofs.Draining.{draining-late, draining-end, draining-on}
use Rattle.queue_drain.proofs.drain_due.Goals as goal

pub returns-then-stamps-at : goal.returns-then-stamps-at
returns-then-stamps-at c = search draining-late

pub loop-k-preserved : goal.loop-k-preserved
loop-k-preserved c = search draining-on

pub returns : goal.returns
returns c = search draining-end
