use Rattle.std.proofs.Common.{ap}
use Rattle.answers.specs.declared.Answered.{Answered}
use Rattle.calls_channels.proofs.Stepped.{drums-set}
use Rattle.cabinet.proofs.set_drum_sample_override.Goals as goal

pub returns-clause-answer : goal.returns-clause-answer
returns-clause-answer c =
    rw (c.set_drum_sample_override-set.ensures, c.in_range-ok.ensures.answer)
    (ap (λ (r : Answered). r.no) (drums-set c.args.channel c.args.drum c.args.chip.now))

pub returns-clause-left : goal.returns-clause-left
returns-clause-left c =
    rw (c.set_drum_sample_override-set.ensures, c.in_range-ok.ensures.answer)
    (ap (λ (r : Answered). r.chip) (drums-set c.args.channel c.args.drum c.args.chip.now))
