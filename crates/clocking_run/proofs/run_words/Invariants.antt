-- `clocking_run::run_words` meets its contract: the invariant and its steps are laws of `proofs/Running.antt`. Assumes nothing.
use Prim.Native.Nat.{◌-◌}
use lib.ListN.{length}
use Rattle.clocking_run.proofs.Running.{Running}
use Rattle.clocking_run.proofs.run_words.Given as goal

abbrev pub invariant-loop-more : goal.invariant-loop-more
invariant-loop-more l = Running l.core l.due l.first l.wave l.scale l.initial.out l.out l.generators l.accumulator l.start l.gate l.ticks l.i l.more

abbrev pub decreases-loop-more : goal.decreases-loop-more
decreases-loop-more l = length l.initial.out - l.i
