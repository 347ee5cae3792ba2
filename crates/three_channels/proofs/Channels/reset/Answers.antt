-- `three_channels::Channels::reset` meets its contract: each channel is the one that `Channel::reset` promises. Assumes nothing.
use Rattle.three_channels.proofs.Channels.reset.Goals as goal

pub returns : goal.returns
returns c = rw (c.reset-c.ensures, c.reset-b.ensures, c.reset-a.ensures)
