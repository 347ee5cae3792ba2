-- `queue_flush::flush` meets its contract: the invariant and its steps are laws of `proofs/Flushing.antt`. Assumes nothing.
use Rattle.queue.specs.Waiting.{ring}
use Rattle.queue_flush.proofs.Flushing.{Flushing}
use Rattle.queue_flush.proofs.flush.Given as goal

abbrev pub invariant-loop-i : goal.invariant-loop-i
invariant-loop-i l = Flushing (ring l.stamps l.registers l.values l.head l.count) l.initial.v l.v l.i
