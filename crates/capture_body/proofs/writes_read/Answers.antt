-- `capture_body::writes_read` meets its contract: what is left gives the whole (`Walking`). Assumes nothing.
use mathlib.Core.Path.{sym}
use native.Mathlib.Omega.{arith}
use Rattle.capture_writes.proofs.Ranged.{refused-line}
use Rattle.capture_body.proofs.Walking.{walking-refused, walking_on, walking-over, walking-ends}
use Rattle.capture_body.proofs.writes_read.Goals as goal

pub overflow_add-result-in-Err : goal.overflow_add-result-in-Err
overflow_add-result-in-Err c = omega (arith, refused-line _ _ _ _ (sym c.in-Err.ensures))

pub returns-in-Err : goal.returns-in-Err
returns-in-Err c = walking-refused c.loop-k.invariant c.loop-k-test.true (sym c.in-Err.ensures)

pub loop-k-preserved : goal.loop-k-preserved
loop-k-preserved c = walking_on c.loop-k.invariant c.loop-k-test.true (sym c.in-Ok.ensures)

pub returns-then-at-text : goal.returns-then-at-text
returns-then-at-text c = walking-over c.loop-k.invariant c.loop-k-test.false c.loop-k.auto.k-end c.if-at-text.true

pub returns : goal.returns
returns c = walking-ends c.loop-k.invariant c.loop-k-test.false c.loop-k.auto.k-end c.if-at-text.false
