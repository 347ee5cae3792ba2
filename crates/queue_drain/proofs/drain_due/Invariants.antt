-- `queue_drain::drain_due` meets its contract: the invariant and its steps are laws of `proofs/Draining.antt`. Assumes nothing.
use Rattle.queue.specs.Waiting.{ring}
use Rattle.queue_drain.proofs.Draining.{Draining}
use Rattle.queue_drain.proofs.drain_due.Given as goal

abbrev pub invariant-loop-k : goal.invariant-loop-k
invariant-loop-k l = Draining l.end l.initial.v l.v (ring l.stamps l.registers l.values l.head l.count) l.k
