use Rattle.calls_channels.proofs.Said.{mute-said}
use Rattle.cabinet.proofs.is_channel_muted.Goals as goal

pub returns : goal.returns
returns c = rw (c.is_channel_muted.ensures, c.mutes.ensures, c.in_range-ok.ensures.answer) (mute-said c.args.channel c.args.chip.now)
