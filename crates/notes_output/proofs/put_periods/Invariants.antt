-- `notes_output::put_periods` meets its contract: the lines so far, and those that are left, are the whole (`Telling`). Assumes nothing.
use Prim.Native.Nat.{◌-◌}
use Rattle.notes_output.proofs.Telling.{Telling}
use Rattle.notes_output.proofs.put_periods.Given as goal

abbrev pub invariant-loop : goal.invariant-loop
invariant-loop l = Telling l.asked.master l.text l.asked.notes l.asked.body l.initial.out (l.end - l.counter) l.at l.out l.place
