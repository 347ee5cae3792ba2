-- `calls_registers::read_register` meets its contract: its step's, on parts of the chip. Assumes nothing.
use Rattle.calls_registers.proofs.Said.{register-said}
use Rattle.calls_registers.proofs.read_register.Goals as goal

pub returns : goal.returns
returns c = rw (c.read_register.ensures, c.in_range-ok.ensures) (register-said _ _)
