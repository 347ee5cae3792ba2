-- `settling::envelope_period_after` meets its contract. Assumes nothing.
use Rattle.settling.proofs.Placed.{period-placed}
use Rattle.settling.proofs.envelope_period_after.Goals as goal

pub returns : goal.returns
returns c = search period-placed
