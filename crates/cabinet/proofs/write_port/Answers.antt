use Rattle.std.proofs.Common.{ap}
use Rattle.answers.specs.declared.Answered.{Answered}
use Rattle.cabinet.proofs.Ports.{port-set}
use Rattle.cabinet.proofs.write_port.Goals as goal

pub returns-clause-answer : goal.returns-clause-answer
returns-clause-answer c =
    rw (c.write_port-r.ensures, c.in_range-ok.ensures.answer)
    (ap (λ (r : Answered). r.no) (port-set c.args.port c.args.value c.args.chip.now))

pub returns-clause-left : goal.returns-clause-left
returns-clause-left c =
    rw (c.put.ensures, c.put-2.ensures, c.put-3.ensures, c.write_port-r.ensures, c.in_range-ok.ensures.answer)
    (ap (λ (r : Answered). r.chip) (port-set c.args.port c.args.value c.args.chip.now))
