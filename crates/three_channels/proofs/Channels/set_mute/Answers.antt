-- `three_channels::Channels::set_mute` meets its contract: it joins its callees' promises. Assumes nothing.
use Rattle.three_channels.specs.Channels.{set_mute}
use Rattle.three_channels.proofs.Channels.set_mute.Goals as goal

pub returns : goal.returns
unfolding set_mute
returns c = rw (c.put.ensures, c.with_mute.ensures, c.at.ensures)
