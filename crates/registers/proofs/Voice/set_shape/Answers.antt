-- `registers::Voice::set_shape` meets its contract. Assumes nothing.
use Rattle.registers.specs.Registers.{shape_set}
use Rattle.registers.proofs.Voice.set_shape.Goals as goal

pub returns : goal.returns
unfolding shape_set
returns c = rw c.set_shape-envelope.ensures
