-- `calls_cycles::set_cpu_cycle` meets its contract: its step's, on parts of the chip. Assumes nothing.
use Rattle.calls_cycles.proofs.Stepped.{stamp-set}
use Rattle.calls_cycles.proofs.set_cpu_cycle.Goals as goal

pub returns : goal.returns
returns c = rw (c.set_cpu_cycle-r.ensures, c.in_range-ok.ensures) (stamp-set _ _)
