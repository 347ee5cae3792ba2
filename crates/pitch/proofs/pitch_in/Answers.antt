-- `pitch::pitch_in` meets its contract. Assumes nothing.
use Rattle.laws.proofs.Tests.{tests}
use Rattle.pitch.specs.Pitch.{pitch_in}
use Rattle.pitch.proofs.pitch_in.Goals as goal

pub returns-then-pitch-eq0 : goal.returns-then-pitch-eq0
unfolding pitch_in
returns-then-pitch-eq0 c = search tests

pub returns : goal.returns
unfolding pitch_in
returns c = search tests
