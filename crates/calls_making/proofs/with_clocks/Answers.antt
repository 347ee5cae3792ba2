-- `calls_making::with_clocks` meets its contract: it makes a chip of the default variant. Assumes nothing.
use mathlib.Core.Path.{sym, ◌∙◌}
use Rattle.calls_making.proofs.Makings.{default-variant}
use Rattle.calls_making.proofs.with_clocks.Goals as goal

pub returns : goal.returns
returns c = c.with_variant.ensures ∙ sym (default-variant _ _)
