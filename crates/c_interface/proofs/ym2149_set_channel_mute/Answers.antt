use Rattle.c_interface.proofs.Mutes.{mute-left, mute-told}
use Rattle.c_interface.proofs.ym2149_set_channel_mute.Goals as goal

pub returns-clause-answer : goal.returns-clause-answer
returns-clause-answer c =
    rw (c.set_channel_mute-set.ensures, c.lent_mutes.ensures, c.in_range-ok.ensures.answer) (mute-told c.args.channel c.args.muted c.args.chip.now)

pub returns-clause-left : goal.returns-clause-left
returns-clause-left c =
    rw (c.keep_drums.ensures, c.set_channel_mute-set.ensures, c.lent_mutes.ensures, c.lent_drums.ensures, c.in_range-ok.ensures.answer) (mute-left c.args.channel c.args.muted c.args.chip.now)
