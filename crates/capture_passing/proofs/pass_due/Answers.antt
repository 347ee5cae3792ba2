-- `pass_due` meets its contract: the record's test, then that of the next word, say which case holds (`Next`). Assumes nothing.
use mathlib.Core.Bool.{not}
use mathlib.Core.Path.{refl, ap}
use native.Mathlib.Omega.{arith}
use borrow.Author.Rules.{rules}
use Rattle.refusals.proofs.Tested.{number-some}
use Rattle.chip.proofs.InRange.{InRange}
use Rattle.answers.proofs.Laws.{in-range}
use Rattle.capture_passing.proofs.Next.{block-refused, block-taken, cycles-fit, end_fits, due-out, due-stops, due-passed}
use Rattle.capture_passing.proofs.pass_due.Goals as goal

pub returns-then-not-in_range : goal.returns-then-not-in_range
returns-then-not-in_range c = due-out _ _ _ _ c.in_range.ensures (ap not c.if-not-in_range.true) c.stopped.ensures

pub accept_block-requires : goal.accept_block-requires
accept_block-requires c = let sound : InRange c.args.chip = in-range _ c.in_range.ensures (record { registers = search rules; stamps = search rules; numbers = search rules; values = search rules }) (ap not c.if-not-in_range.false) in cycles-fit sound

pub overflow_add-start : goal.overflow_add-start
overflow_add-start c = let h = end_fits c.args.chip (block-taken c.args.chip c.in-Ok.ensures) refl in omega (arith, h)

pub returns-in-Ok : goal.returns-in-Ok
returns-in-Ok c = due-passed _ _ _ _ c.in_range.ensures (ap not c.if-not-in_range.false) (block-taken c.args.chip c.in-Ok.ensures) refl c.pass_until.ensures

pub returns-in-Err : goal.returns-in-Err
returns-in-Err c = due-stops _ _ _ _ c.in_range.ensures (ap not c.if-not-in_range.false) (block-refused c.args.chip c.in-Err.why c.in-Err.ensures) (number-some c.in-Err.why) (rw c.number.ensures at c.stopped-in-Err.ensures)
