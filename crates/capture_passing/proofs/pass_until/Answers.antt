-- `pass_until` meets its contract: the invariant and its moves are laws of `proofs/Walking.antt`. Assumes nothing.
use mathlib.Core.Bool.{not}
use mathlib.Core.Path.{refl, sym, ap}
use Rattle.refusals.proofs.Tested.{number-some}
use Rattle.capture_writes.proofs.Ranged.{accepted-at, refused-at}
use Rattle.capture_passing.proofs.Walking.{walking_on, walked, stops-bad, stops-later, stops-refused}
use Rattle.capture_passing.proofs.pass_until.Goals as goal

pub returns-in-Err : goal.returns-in-Err
returns-in-Err c = stops-bad c.loop-k.invariant c.loop-k-test.true (sym (refused-at _ _ _ _ (sym c.in-Err.ensures))) (number-some c.in-Err.refused.why) (rw c.number.ensures at c.stopped.ensures)

pub returns-then-not-is_due : goal.returns-then-not-is_due
returns-then-not-is_due c = stops-later c.loop-k.invariant c.loop-k-test.true (sym (accepted-at _ _ _ _ (sym c.in-Ok.ensures))) refl c.is_due.ensures (ap not c.if-not-is_due.true) c.stopped-then-not-is_due.ensures

pub returns-then-passed-ne-ACCEPTED : goal.returns-then-passed-ne-ACCEPTED
returns-then-passed-ne-ACCEPTED c = stops-refused c.loop-k.invariant c.loop-k-test.true (sym (accepted-at _ _ _ _ (sym c.in-Ok.ensures))) refl c.is_due.ensures (ap not c.if-not-is_due.false) c.pass_write-passed.ensures c.if-passed-ne-ACCEPTED.true c.stopped-then-passed-ne-ACCEPTED.ensures

pub loop-k-preserved : goal.loop-k-preserved
loop-k-preserved c = walking_on c.loop-k.invariant c.loop-k-test.true (sym (accepted-at _ _ _ _ (sym c.in-Ok.ensures))) refl c.is_due.ensures (ap not c.if-not-is_due.false) c.pass_write-passed.ensures c.if-passed-ne-ACCEPTED.false

pub returns : goal.returns
returns c = walked c.loop-k.invariant c.loop-k-test.false c.stopped-2.ensures
