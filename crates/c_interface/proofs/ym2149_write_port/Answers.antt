use Rattle.c_interface.proofs.Ports.{port-left, port-told}
use Rattle.c_interface.proofs.ym2149_write_port.Goals as goal

pub returns-clause-answer : goal.returns-clause-answer
returns-clause-answer c =
    rw (c.write_port-queued.ensures, c.in_range-ok.ensures.answer) (port-told c.args.port c.args.value c.args.chip.now)

pub returns-clause-left : goal.returns-clause-left
returns-clause-left c =
    rw (c.put.ensures, c.put-2.ensures, c.put-3.ensures, c.keep_drums.ensures, c.write_port-queued.ensures, c.lent_drums.ensures, c.in_range-ok.ensures.answer)
    (port-left c.args.port c.args.value c.args.chip.now)
