-- `settling::pitch_after` meets its contract. Assumes nothing.
use Rattle.settling.proofs.pitch_after.Goals as goal

pub returns : goal.returns
returns c = rw c.period_after.ensures
