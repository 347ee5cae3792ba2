-- `chip::core_in` meets its contract. Assumes nothing.
use Rattle.laws.proofs.Tests.{tests, calls}
use Rattle.chip.specs.Range.{core_in}
use Rattle.chip.proofs.core_in.Goals as goal

pub returns-then-not-clocks_in : goal.returns-then-not-clocks_in
unfolding core_in
returns-then-not-clocks_in c = search (tests, calls)

pub returns-then-not-variant_in : goal.returns-then-not-variant_in
unfolding core_in
returns-then-not-variant_in c = search (tests, calls)

pub returns-then-not-voice_in : goal.returns-then-not-voice_in
unfolding core_in
returns-then-not-voice_in c = search (tests, calls)

pub returns-then-core-gt15 : goal.returns-then-core-gt15
unfolding core_in
returns-then-core-gt15 c = search (tests, calls)

pub returns : goal.returns
unfolding core_in
returns c = search (tests, calls)
