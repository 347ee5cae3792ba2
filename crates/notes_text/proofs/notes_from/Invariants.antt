-- `notes_text::notes_from` meets its contract: what is left gives the whole (`Walking`). Assumes nothing.
use Prim.Native.Nat.{◌-◌}
use lib.ListN.{length}
use Rattle.notes_text.proofs.Walking.{Walking}
use Rattle.notes_text.proofs.notes_from.Given as goal

abbrev pub invariant-loop-at : goal.invariant-loop-at
invariant-loop-at l = Walking l.master l.text l.body l.notes l.at

abbrev pub decreases-loop-at : goal.decreases-loop-at
decreases-loop-at l = length l.text - l.at
