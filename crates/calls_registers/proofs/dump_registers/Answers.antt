-- `calls_registers::dump_registers` meets its contract: its step's, on parts of the chip. Assumes nothing.
use Rattle.calls_registers.proofs.Said.{dump-said}
use Rattle.calls_registers.proofs.dump_registers.Goals as goal

pub returns : goal.returns
returns c = rw (c.dump_registers.ensures, c.in_range-ok.ensures) (dump-said _)
