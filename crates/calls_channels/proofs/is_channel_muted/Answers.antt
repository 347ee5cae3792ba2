-- `calls_channels::is_channel_muted` meets its contract: its step's, on parts of the chip. Assumes nothing.
use Rattle.calls_channels.proofs.Said.{mute-said}
use Rattle.calls_channels.proofs.is_channel_muted.Goals as goal

pub returns : goal.returns
returns c = rw (c.is_channel_muted.ensures, c.mutes.ensures, c.in_range-ok.ensures) (mute-said _ _)
