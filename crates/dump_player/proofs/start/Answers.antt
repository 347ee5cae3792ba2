-- `dump_player::start` meets its contract. Assumes nothing.
use Rattle.dump_player.specs.Player.{start_of}
use Rattle.dump_player.proofs.start.Goals as goal

pub returns : goal.returns
unfolding start_of
returns c = rw (c.with_clocks-made.ensures, c.from-verdict.ensures, c.check.ensures)
