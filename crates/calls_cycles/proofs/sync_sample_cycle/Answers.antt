-- `calls_cycles::sync_sample_cycle` meets its contract: its step's, on parts of the chip. Assumes nothing.
use Rattle.calls_cycles.proofs.Stepped.{both-set}
use Rattle.calls_cycles.proofs.sync_sample_cycle.Goals as goal

pub returns : goal.returns
returns c = rw (c.sync_sample_cycle-r.ensures, c.in_range-ok.ensures) (both-set _ _)
