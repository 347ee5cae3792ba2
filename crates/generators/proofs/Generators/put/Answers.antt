-- `generators::Generators::put` meets its contract. Assumes nothing.
use Rattle.laws.proofs.Tests.{tests}
use Rattle.generators.specs.Generators.{put_tone}
use Rattle.generators.proofs.Generators.put.Goals as goal

pub returns-then-channel-eq0 : goal.returns-then-channel-eq0
unfolding put_tone
returns-then-channel-eq0 c = search tests

pub returns-then-channel-eq1 : goal.returns-then-channel-eq1
unfolding put_tone
returns-then-channel-eq1 c = search tests

pub returns-then-channel-eq2 : goal.returns-then-channel-eq2
unfolding put_tone
returns-then-channel-eq2 c = search tests

pub returns-else-channel-eq2 : goal.returns-else-channel-eq2
unfolding put_tone
returns-else-channel-eq2 c = search tests
