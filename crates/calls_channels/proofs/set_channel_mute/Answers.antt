-- `calls_channels::set_channel_mute` meets its contract: its step's, on parts of the chip. Assumes nothing.
use Rattle.calls_channels.proofs.Stepped.{mutes-set}
use Rattle.calls_channels.proofs.set_channel_mute.Goals as goal

pub returns : goal.returns
returns c = rw (c.with_channels-after.ensures, c.with_mute-c.ensures, c.with_mute-b.ensures, c.with_mute-a.ensures, c.set_channel_mute-r.ensures, c.mutes.ensures, c.in_range-ok.ensures) (mutes-set _ _ _)
