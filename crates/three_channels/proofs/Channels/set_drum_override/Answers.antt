-- `three_channels::Channels::set_drum_override` meets its contract: it joins its callees' promises. Assumes nothing.
use Rattle.three_channels.specs.Channels.{set_drum}
use Rattle.three_channels.proofs.Channels.set_drum_override.Goals as goal

pub returns : goal.returns
unfolding set_drum
returns c = rw (c.put.ensures, c.with_drum.ensures, c.at.ensures)
