-- `bus::pass_write` meets its contract: what the port answers says which case holds. Assumes nothing.
use Rattle.bus.proofs.Laws.{refused-passes, taken-passes}
use Rattle.bus.proofs.pass_write.Goals as goal

pub returns-then-passed-ne-ACCEPTED : goal.returns-then-passed-ne-ACCEPTED
returns-then-passed-ne-ACCEPTED c = refused-passes c.args.write c.args.chip c.set_cpu_cycle-stamped.ensures c.write_port-passed.ensures c.refused.ensures c.if-passed-ne-ACCEPTED.true

pub returns : goal.returns
returns c = taken-passes c.args.write c.args.chip c.set_cpu_cycle-stamped.ensures c.write_port-passed.ensures c.if-passed-ne-ACCEPTED.false
