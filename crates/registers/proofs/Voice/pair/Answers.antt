-- `registers::Voice::pair` meets its contract. Assumes nothing.
use Rattle.registers.specs.Registers.{pair_at}
use Rattle.registers.proofs.Voice.pair.Goals as goal

pub returns : goal.returns
unfolding pair_at
returns c = rw c.joined.ensures
