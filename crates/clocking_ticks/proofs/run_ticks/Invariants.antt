-- `clocking_ticks::run_ticks` meets its contract: the invariant and its steps are laws of `proofs/Ticking.antt`. Assumes nothing.
use Rattle.clocking_ticks.proofs.Ticking.{Closing}
use Rattle.clocking_ticks.proofs.run_ticks.Given as goal

abbrev pub invariant-loop-gap : goal.invariant-loop-gap
invariant-loop-gap l = Closing l.gates l.rate l.internal l.accumulator l.initial.turning l.turning l.gathered l.gap l.n

abbrev pub decreases-loop-gap : goal.decreases-loop-gap
decreases-loop-gap l = l.gap
