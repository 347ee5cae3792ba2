-- `queue_effects::effects` meets its contract: the invariant and its steps are laws of `proofs/Counting.antt`. Assumes nothing.
use Rattle.queue_effects.proofs.Counting.{Counting}
use Rattle.queue_effects.proofs.effects.Given as goal

abbrev pub invariant-loop-i : goal.invariant-loop-i
invariant-loop-i l = Counting l.registers l.values l.head l.applied l.initial.held l.held l.changed l.restarted l.i
