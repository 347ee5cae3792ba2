-- `calls_registers::write_register` meets its contract: its step's, on parts of the chip. Assumes nothing.
use Rattle.calls_registers.proofs.Stepped.{write-set}
use Rattle.calls_registers.proofs.write_register.Goals as goal

pub returns : goal.returns
returns c = rw (c.with_voice-after.ensures, c.write_register-r.ensures, c.in_range-ok.ensures) (write-set _ _ _)
