-- `calls_ports::read_port` meets its contract: its step's, on parts of the chip. Assumes nothing.
use Rattle.calls_ports.proofs.Said.{port-said}
use Rattle.calls_ports.proofs.read_port.Goals as goal

pub returns : goal.returns
returns c = rw (c.read_port.ensures, c.in_range-ok.ensures) (port-said _ _)
