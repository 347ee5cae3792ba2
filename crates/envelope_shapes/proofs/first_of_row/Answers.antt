-- `envelope_shapes::first_of_row` meets its contract. Assumes nothing.
use Rattle.laws.proofs.Tests.{tests}
use Rattle.envelope_shapes.proofs.first_of_row.Goals as goal

pub returns-then-row-lt2 : goal.returns-then-row-lt2
returns-then-row-lt2 c = search tests

pub returns-else-row-lt2 : goal.returns-else-row-lt2
returns-else-row-lt2 c = search tests
