-- `calls_cycles::cpu_cycle` meets its contract: its step's, on parts of the chip. Assumes nothing.
use Rattle.calls_cycles.proofs.Stepped.{cycle-said}
use Rattle.calls_cycles.proofs.cpu_cycle.Goals as goal

pub returns : goal.returns
returns c = rw (c.cpu_cycle.ensures, c.in_range-ok.ensures) (cycle-said _)
