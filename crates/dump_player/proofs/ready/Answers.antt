-- `dump_player::ready` meets its contract (`Giving`). Assumes nothing.
use native.Mathlib.Omega.{arith}
use Rattle.dump_player.proofs.Giving.{next-frame, no-frame, due-few}
use Rattle.dump_player.proofs.ready.Goals as goal

pub begin_frame-requires : goal.begin_frame-requires
begin_frame-requires c = let a = c.args in due-few a.text.now a.player c.frame_due.ensures (omega arith) c.if-frame_due.true

pub returns-then-frame_due : goal.returns-then-frame_due
returns-then-frame_due c = next-frame _ _ c.frame_due.ensures c.if-frame_due.true c.begin_frame.ensures

pub returns : goal.returns
returns c = no-frame _ _ c.frame_due.ensures c.if-frame_due.false
