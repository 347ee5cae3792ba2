-- `stored_bytes::chosen` meets its contract. Assumes nothing.
use Rattle.laws.proofs.Tests.{tests}
use Rattle.stored_bytes.proofs.chosen.Goals as goal

pub returns-then-register-place : goal.returns-then-register-place
returns-then-register-place c = search tests

pub returns-else-register-place : goal.returns-else-register-place
returns-else-register-place c = search tests
