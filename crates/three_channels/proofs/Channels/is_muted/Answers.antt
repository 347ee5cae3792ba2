-- `three_channels::Channels::is_muted` meets its contract: below 3 `at` gives the channel, and from 3 on the answer is no. Assumes nothing.
use Rattle.laws.proofs.Tests.{tests}
use Rattle.three_channels.specs.Channels.{is_muted}
use Rattle.three_channels.proofs.Channels.is_muted.Goals as goal

pub returns-then-channel-lt3 : goal.returns-then-channel-lt3
unfolding is_muted
returns-then-channel-lt3 c = rw c.at.ensures (search tests)

pub returns-else-channel-lt3 : goal.returns-else-channel-lt3
unfolding is_muted
returns-else-channel-lt3 c = search tests
