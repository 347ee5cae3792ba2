-- `gates::Gates::gate` meets its contract: it is the rule's own expression. Assumes nothing.
use mathlib.Core.Path.{refl}
use Rattle.gates.specs.Gates.{gate_of}
use Rattle.gates.proofs.Gates.gate.Goals as goal

pub returns : goal.returns
unfolding gate_of
returns c = refl
