use Rattle.std.proofs.Common.{ap}
use Rattle.answers.specs.declared.Applied.{Applied}
use Rattle.calls_cycles.proofs.Stepped.{flush-set}
use Rattle.cabinet.proofs.flush_pending_writes.Goals as goal

pub returns-clause-answer : goal.returns-clause-answer
returns-clause-answer c =
    rw (c.flush_pending_writes-flushed.ensures, c.in_range-ok.ensures.answer)
    (ap (λ (r : Applied). r.answer) (flush-set c.args.chip.now))

pub returns-clause-left : goal.returns-clause-left
returns-clause-left c =
    rw (c.flush_pending_writes-flushed.ensures, c.in_range-ok.ensures.answer)
    (ap (λ (r : Applied). r.chip) (flush-set c.args.chip.now))
