-- `pitch::nearest` meets its contract: at each return the tests say which case of `divided` holds, and that is nearest (`by-dividing`).
-- Assumes nothing.
use Rattle.laws.proofs.Tests.{tests}
use Rattle.pitch.proofs.Dividing.{divided, as-divided, over-fits, over-least, short-fits}
use Rattle.pitch.proofs.nearest.Goals as goal

pub returns-then-below-lt2 : goal.returns-then-below-lt2
unfolding divided
returns-then-below-lt2 c = search (as-divided, tests)

pub returns-then-below-ge4095 : goal.returns-then-below-ge4095
unfolding divided
returns-then-below-ge4095 c = search (as-divided, tests)

pub overflow_mul-over : goal.overflow_mul-over
overflow_mul-over c = search over-fits

pub overflow_sub-step : goal.overflow_sub-step
overflow_sub-step c = search over-least

pub overflow_mul-step-2 : goal.overflow_mul-step-2
overflow_mul-step-2 c = search short-fits

pub returns-then-over-above : goal.returns-then-over-above
unfolding divided
returns-then-over-above c = search (as-divided, tests)

pub returns-else-over-above : goal.returns-else-over-above
unfolding divided
returns-else-over-above c = search (as-divided, tests)
