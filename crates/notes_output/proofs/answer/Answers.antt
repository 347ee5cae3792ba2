-- `notes_output::answer` meets its contract: a law of `Answering` for each return. Assumes nothing.
use mathlib.Core.Path.{sym, ◌∙◌}
use Prim.Native.Nat.{◌<◌}
use native.Mathlib.Omega.{arith}
use Rattle.refusals.specs.Numbers.{number_of}
use Rattle.notes_output.proofs.Answering.{no_room, refused-told, notes-fit, notes-told}
use Rattle.notes_output.proofs.answer.Goals as goal

pub returns-then-out-lt-MOST : goal.returns-then-out-lt-MOST
returns-then-out-lt-MOST c = let both = no_room _ _ c.if-out-lt-MOST.true in record { count = both.0; buffer = both.1 }

pub put_periods-requires : goal.put_periods-requires
put_periods-requires c = notes-fit _ _ c.if-out-lt-MOST.false (sym c.check.ensures ∙ c.in-Ok.is)

pub returns-in-Ok : goal.returns-in-Ok
returns-in-Ok c =
    let both = notes-told _ _ c.if-out-lt-MOST.false (sym c.check.ensures ∙ c.in-Ok.is) (c.put_periods.ensures.count, c.put_periods.ensures.buffer) in
    record { count = both.0; buffer = both.1 }

pub returns-in-Err : goal.returns-in-Err
returns-in-Err c =
    let small : number_of c.in-Err.refused.why < 256 = omega (arith, c.number.ensures) in
    let both = refused-told _ _ c.if-out-lt-MOST.false (sym c.check.ensures ∙ c.in-Err.is) small (omega arith)
    (rw c.number.ensures at c.put_refusal.ensures.place, rw c.number.ensures at c.put_refusal.ensures.text) in
    record { count = both.0; buffer = both.1 }
