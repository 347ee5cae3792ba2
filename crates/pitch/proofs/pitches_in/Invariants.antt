-- `pitch::pitches_in` meets its contract: what is left gives the whole (`Pitches`). Assumes nothing.
use Rattle.pitch.proofs.Lists.{Pitches}
use Rattle.pitch.proofs.pitches_in.Given as goal

abbrev pub invariant-loop-pitch : goal.invariant-loop-pitch
invariant-loop-pitch l = Pitches l.pitches l.pitch-index
