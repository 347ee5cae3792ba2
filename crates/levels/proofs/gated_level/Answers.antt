-- `levels::gated_level` meets its contract: it is the rule's own AND, and five bits fit a byte. Assumes nothing.
use mathlib.Core.Path.{refl}
use Rattle.levels.specs.Levels.{gated_level}
use Rattle.levels.proofs.gated_level.Goals as goal

pub returns : goal.returns
unfolding gated_level
returns c = refl
