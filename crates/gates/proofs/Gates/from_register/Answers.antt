-- `gates::Gates::from_register` meets its contract: both masks are what `gate_mask` promises, the noise bits moved down by three. Assumes nothing.
use Rattle.gates.specs.Gates.{gates_from}
use Rattle.gates.proofs.Gates.from_register.Goals as goal

pub returns : goal.returns
unfolding gates_from
returns c = cc
