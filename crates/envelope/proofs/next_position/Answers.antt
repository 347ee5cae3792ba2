-- `envelope::next_position` meets its contract: a position of 32 bits is read back as it was stored. Assumes nothing.
use mathlib.Core.Path.{refl}
use native.Mathlib.Omega.{arith}
use Rattle.laws.proofs.Tests.{on-true, on-false}
use Rattle.envelope.specs.Envelope.{next_position}
use Rattle.envelope.proofs.Places.{same, next_fits, next-back}
use Rattle.envelope.proofs.next_position.Goals as goal

pub overflow_add-result : goal.overflow_add-result
overflow_add-result c = next_fits _ _ (omega arith) c.ranges.position c.if-position-lt63.true

pub returns-then-position-lt63 : goal.returns-then-position-lt63
unfolding next_position
returns-then-position-lt63 c = on-true _ _ _ _ (rw (same _ c.ranges.position) at c.if-position-lt63.true) (next-back _ _ (omega arith) c.ranges.position c.if-position-lt63.true)

pub returns-else-position-lt63 : goal.returns-else-position-lt63
unfolding next_position
returns-else-position-lt63 c = on-false _ _ _ _ (rw (same _ c.ranges.position) at c.if-position-lt63.false) refl
