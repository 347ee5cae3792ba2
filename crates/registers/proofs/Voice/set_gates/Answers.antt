-- `registers::Voice::set_gates` meets its contract. Assumes nothing.
use Rattle.registers.specs.Registers.{gates_set}
use Rattle.registers.proofs.Voice.set_gates.Goals as goal

pub returns : goal.returns
unfolding gates_set
returns c = rw c.from_register-gates.ensures
