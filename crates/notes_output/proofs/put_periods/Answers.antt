-- `notes_output::put_periods` meets its contract: the lines so far, and those that are left, are the whole (`Telling`). Assumes nothing.
use mathlib.Core.Path.{◌∙◌}
use native.Mathlib.Omega.{arith}
use Rattle.notes_output.proofs.Telling.{telling-start, telling-long, telling-room, telling-on, telling-ends, unwrapped}
use Rattle.notes_output.proofs.put_periods.Goals as goal

pub loop-init : goal.loop-init
loop-init c = telling-start (omega arith) (omega arith)

pub put_period-place-requires : goal.put_period-place-requires
put_period-place-requires c =
    rw (c.unwrap_or.ensures, unwrapped c.note_at-note.result.value) (telling-room c.loop.invariant (omega arith) c.note_at-note.ensures)

pub loop-preserved : goal.loop-preserved
loop-preserved c =
    let e = c.unwrap_or.ensures ∙ unwrapped c.note_at-note.result.value in
    telling-on c.loop.invariant (omega arith) c.note_at-note.ensures (omega arith)
    (rw e at c.put_period-place.ensures.place, rw e at c.put_period-place.ensures.text)

pub shape_of-out : goal.shape_of-out
shape_of-out c = search telling-long

pub returns : goal.returns
returns c = let both = telling-ends c.loop.invariant (omega arith) in record { count = both.0; buffer = both.1 }
