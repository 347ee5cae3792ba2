-- `dump_frames::load_frame` meets its contract: the value of the line at the place, loaded. Assumes nothing.
use Rattle.dump_frames.proofs.load_frame.Goals as goal

pub returns : goal.returns
returns c = rw (c.load_value.ensures, c.value_at.ensures)
