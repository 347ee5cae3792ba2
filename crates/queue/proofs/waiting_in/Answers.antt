-- `queue::waiting_in` meets its contract: the invariant and its steps are laws of `proofs/Range.antt`. Assumes nothing.
use Rattle.queue.proofs.Range.{testing-start, testing-on, testing-end}
use Rattle.queue.proofs.waiting_in.Goals as goal

pub loop-i-init : goal.loop-i-init
loop-i-init c = search testing-start

pub loop-i-preserved : goal.loop-i-preserved
loop-i-preserved c = search testing-on

pub returns : goal.returns
returns c = search testing-end
