-- `envelope_shapes::by_bits` meets its contract: its tests are those of `by_bits`, in the same order. Assumes nothing.
use Rattle.laws.proofs.Tests.{tests}
use Rattle.envelope_shapes.proofs.by_bits.Goals as goal

pub returns-then-k-eq0 : goal.returns-then-k-eq0
returns-then-k-eq0 c = search tests

pub returns-then-not-c : goal.returns-then-not-c
returns-then-not-c c = search tests

pub returns-then-k-eq0-2 : goal.returns-then-k-eq0-2
returns-then-k-eq0-2 c = search tests

pub returns-then-a-l : goal.returns-then-a-l
returns-then-a-l c = search tests

pub returns : goal.returns
returns c = search tests
