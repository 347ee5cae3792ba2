-- `calls_cycles::pending_write_count` meets its contract: its step's, on parts of the chip. Assumes nothing.
use Rattle.calls_cycles.proofs.Stepped.{count-said}
use Rattle.calls_cycles.proofs.pending_write_count.Goals as goal

pub returns : goal.returns
returns c = rw (c.pending_write_count.ensures, c.in_range-ok.ensures) (count-said _)
