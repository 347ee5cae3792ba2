-- `text_put::put_hex` meets its contract: the last digits stand in the buffer (`Hexing`). Assumes nothing.
use Rattle.text_put.proofs.Hexing.{Hexing}
use Rattle.text_put.proofs.put_hex.Given as goal

abbrev pub invariant-loop-i : goal.invariant-loop-i
invariant-loop-i l = Hexing l.initial.out l.at l.n l.width l.out l.rest l.i
