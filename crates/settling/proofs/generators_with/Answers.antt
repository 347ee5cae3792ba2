-- `settling::generators_with` meets its contract. Assumes nothing.
use mathlib.Core.Path.{refl}
use Rattle.settling.specs.Settling.{generators_with}
use Rattle.settling.proofs.generators_with.Goals as goal

pub returns : goal.returns
unfolding generators_with
returns c = refl
