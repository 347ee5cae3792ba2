-- `chip::clocks_of` meets its contract: an accepted rate is not 0. Assumes nothing.
use Rattle.clocks.proofs.Accepted.{accepts}
use Rattle.chip.proofs.clocks_of.Goals as goal

pub nonzero_div-result-2 : goal.nonzero_div-result-2
nonzero_div-result-2 c = (accepts _ _ c.requires).some
