-- `three_channels::Channels::new` meets its contract: each channel is the one that `Channel::new` promises. Assumes nothing.
use Rattle.three_channels.proofs.Channels.new.Goals as goal

pub returns : goal.returns
returns c = rw (c.new-c.ensures, c.new-b.ensures, c.new-a.ensures)
