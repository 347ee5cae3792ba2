-- `calls_ports::write_port_immediate` meets its contract: its step's, on parts of the chip. Assumes nothing.
use Rattle.calls_ports.proofs.Stepped.{written-set}
use Rattle.calls_ports.proofs.write_port_immediate.Goals as goal

pub returns : goal.returns
returns c = rw (c.with_selection-after.ensures, c.with_voice.ensures, c.write_port_immediate-r.ensures, c.in_range-ok.ensures) (written-set _ _ _)
