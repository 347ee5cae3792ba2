-- `tone::tone_step` meets its contract: the test says which case of the rule holds. Assumes nothing.
use native.Mathlib.Omega.{arith}
use Rattle.laws.proofs.Tests.{tests}
use Rattle.tone.specs.Tone.{tone_step}
use Rattle.tone.proofs.tone_step.Goals as goal

pub returns-then-count-period : goal.returns-then-count-period
unfolding tone_step
returns-then-count-period c = (search tests, omega arith)

pub returns-else-count-period : goal.returns-else-count-period
unfolding tone_step
returns-else-count-period c = (search tests, omega arith)
