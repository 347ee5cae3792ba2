-- `drums::drum_out` meets its contract: the rule's own two operations, with 4.0 and 10922.0 by their bit patterns. Assumes nothing.
use lib.Ieee.{of_bits, of_int}
use Rattle.drums.specs.Drums.{drum_out}
use Rattle.drums.proofs.drum_out.Goals as goal

pub returns : goal.returns
unfolding drum_out of_bits of_int
returns c = c.cut.ensures
