-- `registers::Voice::set` meets its contract: the arm of the match says which case of the rule holds. Assumes nothing.
use native.Mathlib.Omega.{arith}
use Rattle.registers.proofs.Cases.{to-tone, to-noise, to-gates, to-envelope, to-shape, to_none}
use Rattle.registers.proofs.Voice.set.Goals as goal

pub returns-in-6 : goal.returns-in-6
returns-in-6 c = to-noise _ _ (omega arith) c.set_noise_period.ensures

pub returns-in-7 : goal.returns-in-7
returns-in-7 c = to-gates _ _ (omega arith) c.set_gates.ensures

pub returns-in-13 : goal.returns-in-13
returns-in-13 c = to-shape _ _ (omega arith) c.set_shape.ensures

pub returns-in-0-to-5 : goal.returns-in-0-to-5
returns-in-0-to-5 c = to-tone _ _ (omega arith) c.set_tone_period.ensures

pub returns-in-11 : goal.returns-in-11
returns-in-11 c = to-envelope _ _ (omega arith) (omega arith) c.set_envelope_period.ensures

pub returns-in_default : goal.returns-in_default
returns-in_default c = to_none _ _ (omega arith) (omega arith) (omega arith) (omega arith)

pub returns-in_default-2 : goal.returns-in_default-2
returns-in_default-2 c = to_none _ _ (omega arith) (omega arith) (omega arith) (omega arith)
