-- `channel::Channel::compute_output` meets its contract: each return is one way of `heard`, muted, drum or level, and a law of `Outputs.antt` has each. Assumes nothing.
use Rattle.laws.proofs.Tests.{tests}
use Rattle.channel.proofs.Outputs.{zero_is, muted-heard, sample-heard, level-heard}
use Rattle.channel.proofs.Channel.compute_output.Goals as goal

pub returns-then-self : goal.returns-then-self
returns-then-self c = search muted-heard

pub returns-in-Sample : goal.returns-in-Sample
returns-in-Sample c = search sample-heard

pub returns-then-ungated-eq0 : goal.returns-then-ungated-eq0
returns-then-ungated-eq0 c = search (level-heard, zero_is, tests)

pub returns-then-gated-ungated : goal.returns-then-gated-ungated
returns-then-gated-ungated c = search (level-heard, tests)

pub returns-else-gated-ungated : goal.returns-else-gated-ungated
returns-else-gated-ungated c = search (level-heard, tests)
