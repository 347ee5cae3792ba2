-- `settling::gates_after` meets its contract. Assumes nothing.
use Rattle.laws.proofs.Tests.{tests}
use Rattle.settling.proofs.gates_after.Goals as goal

pub returns-then-marks-eq0 : goal.returns-then-marks-eq0
returns-then-marks-eq0 c = search tests

pub returns : goal.returns
returns c = search tests
