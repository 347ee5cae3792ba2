-- `queue::Queue::in_range` meets its contract: stamps and values say nothing to the test. Assumes nothing.
use mathlib.Core.Path.{◌∙◌}
use Rattle.queue.proofs.Range.{bare-same}
use Rattle.queue.proofs.Queue.in_range.Goals as goal

pub returns : goal.returns
returns c = c.ring_in.ensures ∙ bare-same _
