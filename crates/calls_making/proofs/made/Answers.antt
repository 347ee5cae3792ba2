-- `calls_making::made` meets its contract: a chip at its start, of new parts. Assumes nothing.
use Rattle.calls_making.specs.Making.{made_of}
use Rattle.calls_making.proofs.made.Goals as goal

pub returns : goal.returns
unfolding made_of
returns c = rw (c.at_start.ensures, c.new-2.ensures, c.new.ensures)
