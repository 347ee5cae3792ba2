use native.Mathlib.Omega.{arith}
use Rattle.dump_progress.proofs.Due.{not_yet, if-any}
use Rattle.dump_progress.proofs.frame_due.Goals as goal

-- `dump_progress::frame_due` meets its contract. Assumes nothing.
pub returns-then-p-gt0 : goal.returns-then-p-gt0
returns-then-p-gt0 c = not_yet _ _ (omega (arith, c.if-p-gt0.true))

pub returns : goal.returns
returns c = if-any _ _ (omega (arith, c.if-p-gt0.false))
