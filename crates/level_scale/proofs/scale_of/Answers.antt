-- `level_scale::scale_of` meets its contract: it is made of the two rules. Assumes nothing.
use Rattle.level_scale.specs.Scale.{scale_of}
use Rattle.level_scale.proofs.scale_of.Goals as goal

pub returns : goal.returns
unfolding scale_of
returns c = rw (c.envelope_used.ensures, c.fixed_level.ensures)
