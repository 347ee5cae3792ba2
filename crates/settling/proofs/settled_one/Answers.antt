-- `settling::settled_one` meets its contract: the arm of the match says which register it is. Assumes nothing.
use native.Mathlib.Omega.{arith}
use Rattle.settling.proofs.Alone.{alone-a, alone-b, alone-c, alone-noise, alone-gates, alone-period, alone-shape, alone-none}
use Rattle.settling.proofs.settled_one.Goals as goal

pub returns-in-6 : goal.returns-in-6
returns-in-6 c = alone-noise _ _ _ (omega arith)

pub returns-in-7 : goal.returns-in-7
returns-in-7 c = alone-gates _ _ _ (omega arith) c.from_register-gates.ensures

pub returns-in-13 : goal.returns-in-13
returns-in-13 c = alone-shape _ _ _ (omega arith) c.set_shape-envelope.ensures

pub returns-in-0 : goal.returns-in-0
returns-in-0 c = alone-a _ _ _ (omega arith) c.joined-period.ensures

pub returns-in-2 : goal.returns-in-2
returns-in-2 c = alone-b _ _ _ (omega arith) (omega arith) c.joined-period-in-2.ensures

pub returns-in-4 : goal.returns-in-4
returns-in-4 c = alone-c _ _ _ (omega arith) (omega arith) c.joined-period-in-4.ensures

pub returns-in-11 : goal.returns-in-11
returns-in-11 c = alone-period _ _ _ (omega arith) (omega arith) c.joined-period-in-11.ensures

pub returns-in_default : goal.returns-in_default
returns-in_default c = alone-none _ _ _ (omega arith) (omega arith)

pub returns-in_default-2 : goal.returns-in_default-2
returns-in_default-2 c = alone-none _ _ _ (omega arith) (omega arith)
