-- A write on the bus. 02, request 01: writes "are passed to the ports in file order with their stamps". Assumes nothing.
use Rattle.std.specs.Prelude.{cond, eqb}
use Rattle.refusals.specs.Numbers.{accepted}
use Rattle.chip.specs.declared.Chip.{Chip}
use Rattle.answers.specs.Answers.{answered, unless22}
use Rattle.answers.specs.declared.Answered.{Answered}
use Rattle.calls_cycles.specs.Cycles.{set_cpu_cycle}
use Rattle.calls_ports.specs.Ports.{write_port}
use Rattle.bus_writes.specs.declared.BusWrite.{BusWrite}

-- Its stamp is set, then its port written; where the port refuses (4), nothing changes, nor does the stamp.
unfoldable pub pass_write : BusWrite → Chip → Answered
pass_write w c =
    let p = write_port w.port w.value (set_cpu_cycle w.stamp c).chip in
    unless22 c (cond (eqb p.no accepted) p (answered p.no c))
