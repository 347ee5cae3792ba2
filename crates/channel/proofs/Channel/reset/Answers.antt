-- `channel::Channel::reset` meets its contract: it is the rule's record, with 0.0 by its bit pattern. Assumes nothing.
use mathlib.Core.Path.{refl}
use lib.Ieee.{of_bits, of_int}
use Rattle.channel.proofs.Channel.reset.Goals as goal

pub returns : goal.returns
unfolding of_bits of_int
returns c = refl
