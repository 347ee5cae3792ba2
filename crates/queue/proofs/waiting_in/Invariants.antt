-- `queue::waiting_in` meets its contract: the invariant and its steps are laws of `proofs/Range.antt`. Assumes nothing.
use Rattle.queue.proofs.Range.{Testing}
use Rattle.queue.proofs.waiting_in.Given as goal

abbrev pub invariant-loop-i : goal.invariant-loop-i
invariant-loop-i l = Testing l.registers l.head l.count l.held l.i
