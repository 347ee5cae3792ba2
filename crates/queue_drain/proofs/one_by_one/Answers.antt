-- `queue_drain::one_by_one` meets its contract: writes change nothing of a voice but its bytes and its settings. Assumes nothing.
use Rattle.queue_drain.proofs.Kept.{drains-told}
use Rattle.queue_drain.proofs.one_by_one.Goals as goal

pub returns : goal.returns
returns c = search drains-told
