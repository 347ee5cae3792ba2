-- `envelope::Envelope::tick` meets its contract. Assumes nothing.
use Rattle.laws.proofs.Tests.{tests}
use Rattle.envelope.proofs.Places.{late}
use Rattle.envelope.specs.Envelope.{envelope_tick, next_position}
use Rattle.envelope.proofs.Envelope.tick.Goals as goal

pub returns-then-count-self : goal.returns-then-count-self
unfolding envelope_tick next_position
returns-then-count-self c = search tests

pub returns-else-count-self : goal.returns-else-count-self
returns-else-count-self c = search late
