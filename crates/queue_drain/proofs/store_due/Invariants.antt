-- `queue_drain::store_due` meets its contract: the invariant and its steps are laws of `proofs/Storing.antt`. Assumes nothing.
use Rattle.queue.specs.Waiting.{ring}
use Rattle.queue_drain.proofs.Storing.{Storing}
use Rattle.queue_drain.proofs.store_due.Given as goal

abbrev pub invariant-loop-i : goal.invariant-loop-i
invariant-loop-i l = Storing l.end l.initial.kept l.kept l.marks (ring l.stamps l.registers l.values l.head l.count) l.i
