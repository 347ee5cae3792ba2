-- `generators::Generators::at` meets its contract. Assumes nothing.
use Rattle.laws.proofs.Tests.{tests}
use Rattle.generators.specs.Generators.{tone_at}
use Rattle.generators.proofs.Generators.at.Goals as goal

pub returns-then-channel-eq0 : goal.returns-then-channel-eq0
unfolding tone_at
returns-then-channel-eq0 c = search tests

pub returns-then-channel-eq1 : goal.returns-then-channel-eq1
unfolding tone_at
returns-then-channel-eq1 c = search tests

pub returns-else-channel-eq1 : goal.returns-else-channel-eq1
unfolding tone_at
returns-else-channel-eq1 c = search tests
