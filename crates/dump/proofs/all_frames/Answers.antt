-- `dump::all_frames` meets its contract: what was read of the frames' lines tells the answer (`Framing`). Assumes nothing.
use Rattle.std.proofs.Common.{arith}
use Rattle.std.proofs.lemmas.Grind.{common_steps}
use Rattle.dump.proofs.Framing.{whole}
use Rattle.dump.proofs.all_frames.Goals as goal

pub returns-then-read-frames : goal.returns-then-read-frames
returns-then-read-frames c = rw (whole _ _ _ c.frames_read-read.ensures) (grind (arith, common_steps))

pub returns-then-read-text : goal.returns-then-read-text
returns-then-read-text c = rw (whole _ _ _ c.frames_read-read.ensures) (grind (arith, common_steps))

pub returns : goal.returns
returns c = rw (whole _ _ _ c.frames_read-read.ensures) (grind (arith, common_steps))
