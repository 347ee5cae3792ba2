-- `calls_registers::load_registers` meets its contract: its step's, on parts of the chip. Assumes nothing.
use Rattle.calls_registers.proofs.Stepped.{load_set}
use Rattle.calls_registers.proofs.load_registers.Goals as goal

pub returns : goal.returns
returns c = rw (c.with_voice-after.ensures, c.load_registers-r.ensures, c.in_range-ok.ensures) (load_set _ _)
