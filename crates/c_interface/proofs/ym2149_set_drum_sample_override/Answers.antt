use Rattle.c_interface.proofs.Mutes.{drum-left, drum-told}
use Rattle.c_interface.proofs.ym2149_set_drum_sample_override.Goals as goal

pub returns-clause-answer : goal.returns-clause-answer
returns-clause-answer c =
    rw (c.set_drum_sample_override-set.ensures, c.lent_drums.ensures, c.in_range-ok.ensures.answer) (drum-told c.args.channel c.args.drum c.args.chip.now)

pub returns-clause-left : goal.returns-clause-left
returns-clause-left c =
    rw (c.keep_drums.ensures, c.set_drum_sample_override-set.ensures, c.lent_drums.ensures, c.in_range-ok.ensures.answer) (drum-left c.args.channel c.args.drum c.args.chip.now)
