-- `tables::register_mask` meets its contract: the width of each register makes its mask. Assumes nothing.
use Rattle.tables.proofs.Widths.{power-some, mask-made, mask-small}
use Rattle.tables.proofs.register_mask.Goals as goal

pub overflow_sub-result : goal.overflow_sub-result
overflow_sub-result c = power-some _ tt c.args.register c.requires

pub overflow_cast-result-2 : goal.overflow_cast-result-2
overflow_cast-result-2 c = record { fits = mask-small _ tt c.args.register c.requires }

pub returns : goal.returns
returns c = mask-made _ tt c.args.register c.requires
