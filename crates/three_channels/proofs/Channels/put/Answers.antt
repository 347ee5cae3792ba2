-- `three_channels::Channels::put` meets its contract: the code makes the tests of `put_channel`. Assumes nothing.
use Rattle.laws.proofs.Tests.{tests}
use Rattle.three_channels.specs.Channels.{put_channel}
use Rattle.three_channels.proofs.Channels.put.Goals as goal

pub returns-then-channel-eq0 : goal.returns-then-channel-eq0
unfolding put_channel
returns-then-channel-eq0 c = search tests

pub returns-then-channel-eq1 : goal.returns-then-channel-eq1
unfolding put_channel
returns-then-channel-eq1 c = search tests

pub returns-then-channel-eq2 : goal.returns-then-channel-eq2
unfolding put_channel
returns-then-channel-eq2 c = search tests

pub returns-else-channel-eq2 : goal.returns-else-channel-eq2
unfolding put_channel
returns-else-channel-eq2 c = search tests
