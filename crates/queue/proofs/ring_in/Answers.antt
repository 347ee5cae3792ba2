-- `queue::ring_in` meets its contract: nothing waits, or where every slot is narrow so is each waiting write, and else they are looked at. Assumes nothing.
use Rattle.laws.proofs.Tests.{tests}
use Rattle.queue.specs.Waiting.{queue_in}
use Rattle.queue.proofs.Range.{none_pass, slots-pass, waiting-pass}
use Rattle.queue.proofs.ring_in.Goals as goal

pub returns-then-head-ge256 : goal.returns-then-head-ge256
unfolding queue_in
returns-then-head-ge256 c = search tests

pub returns-then-count-gt256 : goal.returns-then-count-gt256
unfolding queue_in
returns-then-count-gt256 c = search tests

pub returns-then-count-eq0 : goal.returns-then-count-eq0
returns-then-count-eq0 c = search none_pass

pub returns-then-slots_in : goal.returns-then-slots_in
returns-then-slots_in c = search (slots-pass, c.slots_in.ensures)

pub returns : goal.returns
returns c = search waiting-pass
