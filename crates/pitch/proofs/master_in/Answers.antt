-- `pitch::master_in` meets its contract. Assumes nothing.
use Rattle.laws.proofs.Tests.{tests}
use Rattle.pitch.specs.Pitch.{master_in}
use Rattle.pitch.proofs.master_in.Goals as goal

pub returns-then-master-lt-LOWEST_MASTER : goal.returns-then-master-lt-LOWEST_MASTER
unfolding master_in
returns-then-master-lt-LOWEST_MASTER c = search tests

pub returns : goal.returns
unfolding master_in
returns c = search tests
