use Rattle.std.proofs.Common.{ap, length}
use Rattle.answers.specs.declared.Blocked.{Blocked}
use Rattle.calls_words.proofs.Blocking.{blocked-by, buffer-by}
use Rattle.cabinet_words.proofs.block.Goals as goal

pub block-r-requires : goal.block-r-requires
block-r-requires c ok = (c.in_range-ok.ensures.core ok, c.in_range-ok.ensures.queue ok)

pub returns-clause-answer : goal.returns-clause-answer
returns-clause-answer c =
    rw (c.block-r.ensures.answer, c.in_range-ok.ensures.answer)
    (ap (λ (r : Blocked). r.answer) (blocked-by (length c.args.out.now) c.args.chip.now))

pub returns-clause-left : goal.returns-clause-left
returns-clause-left c =
    rw (c.block-r.ensures.answer, c.in_range-ok.ensures.answer)
    (ap (λ (r : Blocked). r.chip) (blocked-by (length c.args.out.now) c.args.chip.now))

pub returns-clause-buffer : goal.returns-clause-buffer
returns-clause-buffer c =
    rw (c.block-r.ensures.buffer, c.in_range-ok.ensures.answer) (buffer-by c.args.out.now c.args.chip.now)
