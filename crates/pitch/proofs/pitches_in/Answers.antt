-- `pitch::pitches_in` meets its contract: what is left gives the whole (`Pitches`). Assumes nothing.
use Rattle.pitch.proofs.Lists.{pitches-start, pitches-off, pitches-on, pitches-end}
use Rattle.pitch.proofs.pitches_in.Goals as goal

pub loop-pitch-init : goal.loop-pitch-init
loop-pitch-init c = pitches-start

pub returns-then-not-pitch_in : goal.returns-then-not-pitch_in
returns-then-not-pitch_in c = search pitches-off

pub loop-pitch-preserved : goal.loop-pitch-preserved
loop-pitch-preserved c = search pitches-on

pub returns : goal.returns
returns c = search pitches-end
