-- `level_scale::Scale::used` meets its contract: it is the rule's own AND. Assumes nothing.
use mathlib.Core.Path.{refl}
use Rattle.level_scale.specs.Scale.{used_of}
use Rattle.level_scale.proofs.Scale.used.Goals as goal

pub returns : goal.returns
unfolding used_of
returns c = refl
