-- `calls_making::new` meets its contract: the default clocks are accepted, by computation. Assumes nothing.
use mathlib.Core.Path.{refl, ◌∙◌}
use Rattle.clocks.specs.Clocks.{accept_clocks, clocks_no}
use Rattle.calls_making.specs.Making.{fresh}
use Rattle.calls_making.proofs.new.Goals as goal

pub clocks_of-requires : goal.clocks_of-requires
unfolding clocks_no accept_clocks
clocks_of-requires c = refl

pub returns : goal.returns
unfolding fresh
returns c = c.made.ensures ∙ rw c.clocks_of.ensures
