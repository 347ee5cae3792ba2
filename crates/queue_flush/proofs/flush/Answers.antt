-- `queue_flush::flush` meets its contract: the invariant and its steps are laws of `proofs/Flushing.antt`. Assumes nothing.
use Rattle.queue_flush.proofs.Flushing.{flushing-start, flushing-on, flushing-end}
use Rattle.queue_flush.proofs.flush.Goals as goal

pub loop-i-init : goal.loop-i-init
loop-i-init c = search flushing-start

pub loop-i-preserved : goal.loop-i-preserved
loop-i-preserved c = search flushing-on

pub returns : goal.returns
returns c = search flushing-end
