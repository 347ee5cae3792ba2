use Rattle.std.proofs.Common.{ap}
use Rattle.answers.specs.declared.Answered.{Answered}
use Rattle.calls_channels.proofs.Stepped.{mutes-set}
use Rattle.cabinet.proofs.set_channel_mute.Goals as goal

pub returns-clause-answer : goal.returns-clause-answer
returns-clause-answer c =
    rw (c.set_channel_mute-set.ensures, c.mutes.ensures, c.in_range-ok.ensures.answer)
    (ap (λ (r : Answered). r.no) (mutes-set c.args.channel c.args.muted c.args.chip.now))

pub returns-clause-left : goal.returns-clause-left
returns-clause-left c =
    rw (c.set_channel_mute-set.ensures, c.mutes.ensures, c.in_range-ok.ensures.answer)
    (ap (λ (r : Answered). r.chip) (mutes-set c.args.channel c.args.muted c.args.chip.now))
