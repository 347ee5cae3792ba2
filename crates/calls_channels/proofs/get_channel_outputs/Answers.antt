-- `calls_channels::get_channel_outputs` meets its contract: its step's, on parts of the chip. Assumes nothing.
use Rattle.calls_channels.proofs.Said.{outputs-said}
use Rattle.calls_channels.proofs.get_channel_outputs.Goals as goal

pub returns : goal.returns
returns c = rw (c.get_channel_outputs.ensures, c.in_range-ok.ensures) (outputs-said _)
