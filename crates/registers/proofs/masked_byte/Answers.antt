-- `registers::masked_byte` meets its contract. Assumes nothing.
use Rattle.registers.specs.Registers.{masked}
use Rattle.registers.proofs.masked_byte.Goals as goal

pub returns : goal.returns
unfolding masked
returns c = rw c.register_mask.ensures
