-- `queue::slots_in` meets its contract: the invariant and its steps are laws of `proofs/Range.antt`. Assumes nothing.
use Rattle.queue.proofs.Range.{passing-on}
use Rattle.queue.proofs.slots_in.Goals as goal

pub loop-register-preserved : goal.loop-register-preserved
loop-register-preserved c = search passing-on
