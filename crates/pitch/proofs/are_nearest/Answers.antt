-- `pitch::are_nearest` meets its contract: the tests in the definition's order. Assumes nothing.
use Rattle.laws.proofs.Tests.{on-eq, on-ne, on-no, on-yes}
use Rattle.pitch.specs.Pitch.{are_nearest}
use Rattle.pitch.proofs.Ranges.{master-tested, was-true}
use mathlib.Core.Bool.{not}
use mathlib.Core.Path.{ap, refl}
use Rattle.pitch.proofs.are_nearest.Goals as goal

pub returns-then-not-master_in : goal.returns-then-not-master_in
unfolding are_nearest
returns-then-not-master_in c = on-no _ _ _ _ _ c.master_in.ensures (ap not c.if-not-master_in.true) refl

pub returns-then-pitches-periods : goal.returns-then-pitches-periods
unfolding are_nearest
returns-then-pitches-periods c = on-yes _ _ _ _ _ c.master_in.ensures (ap not c.if-not-master_in.false)
    (on-ne _ _ _ _ _ c.if-pitches-periods.true refl)

pub returns-then-not-pitches_in : goal.returns-then-not-pitches_in
unfolding are_nearest
returns-then-not-pitches_in c = on-yes _ _ _ _ _ c.master_in.ensures (ap not c.if-not-master_in.false)
    (on-eq _ _ _ _ _ c.if-pitches-periods.false
    (on-no _ _ _ _ _ c.pitches_in.ensures (ap not c.if-not-pitches_in.true) refl))

pub each_nearest-requires : goal.each_nearest-requires
each_nearest-requires c = record { master_in = master-tested _ _ c.master_in.ensures (ap not c.if-not-master_in.false); pitches_len = c.if-pitches-periods.false; pitches_value = was-true _ c.pitches_in.ensures (ap not c.if-not-pitches_in.false) }

pub returns : goal.returns
unfolding are_nearest
returns c = on-yes _ _ _ _ _ c.master_in.ensures (ap not c.if-not-master_in.false)
    (on-eq _ _ _ _ _ c.if-pitches-periods.false
    (on-yes _ _ _ _ _ c.pitches_in.ensures (ap not c.if-not-pitches_in.false) (rw c.each_nearest.ensures)))
