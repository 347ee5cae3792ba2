-- `three_channels::Channels::at` meets its contract: the code makes the tests of `channel_at`. Assumes nothing.
use Rattle.laws.proofs.Tests.{tests}
use Rattle.three_channels.specs.Channels.{channel_at}
use Rattle.three_channels.proofs.Channels.at.Goals as goal

pub returns-then-channel-eq0 : goal.returns-then-channel-eq0
unfolding channel_at
returns-then-channel-eq0 c = search tests

pub returns-then-channel-eq1 : goal.returns-then-channel-eq1
unfolding channel_at
returns-then-channel-eq1 c = search tests

pub returns-else-channel-eq1 : goal.returns-else-channel-eq1
unfolding channel_at
returns-else-channel-eq1 c = search tests
