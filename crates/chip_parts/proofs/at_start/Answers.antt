-- `chip_parts::at_start` meets its contract: the queue is the new one. Assumes nothing.
use Rattle.chip_parts.proofs.at_start.Goals as goal

pub returns : goal.returns
returns c = rw c.new-queue.ensures
