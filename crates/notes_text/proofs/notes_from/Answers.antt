-- `notes_text::notes_from` meets its contract: what is left gives the whole (`Walking`). Assumes nothing.
use native.Mathlib.Omega.{arith}
use Rattle.std.proofs.lemmas.Grind.{common_steps}
use Rattle.notes_text.proofs.Walking.{walking_start, walking-refused, walking_on, walking-less, walking-ends}
use Rattle.notes_text.proofs.notes_from.Goals as goal

pub loop-at-init : goal.loop-at-init
loop-at-init c = search walking_start

pub returns-in_err-at_line : goal.returns-in_err-at_line
returns-in_err-at_line c =
    let e = walking-refused c.loop-at.invariant c.loop-at-test.true c.note_at-note.ensures c.at_line.ensures c.in_err-at_line.was in rw (← e) (grind (arith, common_steps))

pub loop-at-smaller : goal.loop-at-smaller
loop-at-smaller c = walking-less c.loop-at.invariant c.loop-at-test.true c.note_at-note.ensures c.at_line.ensures c.in_ok-at_line.was

pub loop-at-preserved : goal.loop-at-preserved
loop-at-preserved c = walking_on c.loop-at.invariant c.loop-at-test.true c.note_at-note.ensures c.at_line.ensures c.in_ok-at_line.was

pub returns : goal.returns
returns c = search walking-ends
