-- `tone::Tone::set_period` meets its contract. Assumes nothing.
use Rattle.laws.proofs.Tests.{tests}
use Rattle.tone.specs.Tone.{tone_set}
use Rattle.tone.proofs.Tone.set_period.Goals as goal

pub returns-then-irq : goal.returns-then-irq
unfolding tone_set
returns-then-irq c = search tests

pub returns-else-irq : goal.returns-else-irq
unfolding tone_set
returns-else-irq c = search tests

pub returns-else-period-le1 : goal.returns-else-period-le1
unfolding tone_set
returns-else-period-le1 c = search tests
