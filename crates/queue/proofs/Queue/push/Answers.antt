-- `queue::Queue::push` meets its contract: the ring by its test, the list by `waiting-push`. Assumes nothing.
use Rattle.laws.proofs.Tests.{tests}
use Rattle.queue.specs.Waiting.{push}
use Rattle.queue.proofs.Laws.{pushes}
use Rattle.queue.proofs.Queue.push.Goals as goal

pub returns-then-self-ge256 : goal.returns-then-self-ge256
unfolding push
returns-then-self-ge256 c = search (pushes, tests)

pub returns : goal.returns
unfolding push
returns c = search (pushes, tests)
