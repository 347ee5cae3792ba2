-- `chip::in_range` meets its contract. Assumes nothing.
use Rattle.laws.proofs.Tests.{tests, calls}
use Rattle.chip.specs.Range.{chip_in}
use Rattle.chip.proofs.in_range.Goals as goal

pub returns-then-not-core_in : goal.returns-then-not-core_in
unfolding chip_in
returns-then-not-core_in c = search (tests, calls)

pub returns-then-not-in_range : goal.returns-then-not-in_range
unfolding chip_in
returns-then-not-in_range c = search (tests, calls)

pub returns : goal.returns
unfolding chip_in
returns c = search (tests, calls)
