-- `pitch::each_nearest` meets its contract: what is left gives the whole (`Pairs`). Assumes nothing.
use Rattle.pitch.proofs.Lists.{Pairs}
use Rattle.pitch.proofs.each_nearest.Given as goal

abbrev pub invariant-loop-i : goal.invariant-loop-i
invariant-loop-i l = Pairs l.master l.pitches l.periods l.i
