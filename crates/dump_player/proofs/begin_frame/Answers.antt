-- `dump_player::begin_frame` meets its contract (`Giving`). Assumes nothing.
use Rattle.dump_player.proofs.Giving.{frame-not, frame-begins}
use Rattle.dump_player.proofs.begin_frame.Goals as goal

pub returns-then-loaded-ne-ACCEPTED : goal.returns-then-loaded-ne-ACCEPTED
returns-then-loaded-ne-ACCEPTED c = frame-not _ _ c.load_frame-loaded.ensures c.if-loaded-ne-ACCEPTED.true

pub returns : goal.returns
returns c = frame-begins _ _ c.load_frame-loaded.ensures c.if-loaded-ne-ACCEPTED.false c.line_at-line.ensures c.frame_begins-progress.ensures
