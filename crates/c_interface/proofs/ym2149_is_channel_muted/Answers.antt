use Rattle.calls_channels.proofs.Said.{mute-said}
use Rattle.c_record.specs.Record.{chip_of, core_of}
use Rattle.c_interface.proofs.ym2149_is_channel_muted.Goals as goal

pub returns : goal.returns
unfolding core_of
returns c = rw (c.is_channel_muted.ensures, c.lent_mutes.ensures, c.in_range-ok.ensures.answer) (mute-said c.args.channel (chip_of c.args.chip.now))
