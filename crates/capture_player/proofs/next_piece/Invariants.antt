-- `capture_player::next_piece` meets its contract: each step is put behind the bytes so far, and leaves less room (`Filling`). Assumes nothing.
use Prim.Native.Nat.{◌-◌}
use lib.ListN.{length}
use Rattle.capture_player.proofs.Filling.{Filling}
use Rattle.capture_player.proofs.next_piece.Given as goal

abbrev pub invariant-loop-step : goal.invariant-loop-step
invariant-loop-step l = Filling l.text l.initial.out l.initial.player l.out l.player l.filled

abbrev pub decreases-loop-step : goal.decreases-loop-step
decreases-loop-step l = length l.initial.out - l.filled
