-- `tone::Tone::apply_pending_reset` meets its contract. Assumes nothing.
use Rattle.laws.proofs.Tests.{tests}
use Rattle.tone.specs.Tone.{tone_released}
use Rattle.tone.proofs.Tone.apply_pending_reset.Goals as goal

pub returns-then-self : goal.returns-then-self
unfolding tone_released
returns-then-self c = search tests

pub returns-else-self : goal.returns-else-self
unfolding tone_released
returns-else-self c = search tests
