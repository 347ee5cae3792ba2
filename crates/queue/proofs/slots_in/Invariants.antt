-- `queue::slots_in` meets its contract: the invariant and its steps are laws of `proofs/Range.antt`. Assumes nothing.
use Rattle.queue.proofs.Range.{Passing}
use Rattle.queue.proofs.slots_in.Given as goal

abbrev pub invariant-loop-register : goal.invariant-loop-register
invariant-loop-register l = Passing l.fn.registers l.all l.register-index
