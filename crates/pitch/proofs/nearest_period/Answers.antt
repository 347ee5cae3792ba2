-- `pitch::nearest_period` meets its contract. Assumes nothing.
use Rattle.laws.proofs.Tests.{calls, on-yes}
use Rattle.pitch.specs.Pitch.{nearest_period}
use Rattle.pitch.proofs.Ranges.{master-tested, pitch-tested}
use mathlib.Core.Bool.{not}
use mathlib.Core.Path.{ap}
use Rattle.pitch.proofs.nearest_period.Goals as goal

pub returns-then-not-master_in : goal.returns-then-not-master_in
unfolding nearest_period
returns-then-not-master_in c = search calls

pub returns-then-not-pitch_in : goal.returns-then-not-pitch_in
unfolding nearest_period
returns-then-not-pitch_in c = search calls

pub nearest-requires : goal.nearest-requires
nearest-requires c = record { master_in = master-tested _ _ c.master_in.ensures (ap not c.if-not-master_in.false); pitch_in = pitch-tested _ _ c.pitch_in.ensures (ap not c.if-not-pitch_in.false) }

pub returns : goal.returns
unfolding nearest_period
returns c = on-yes _ _ _ _ _ c.master_in.ensures (ap not c.if-not-master_in.false)
    (on-yes _ _ _ _ _ c.pitch_in.ensures (ap not c.if-not-pitch_in.false) (rw c.nearest.ensures))
