-- `generators::Generators::tick` meets its contract. Assumes nothing.
use Rattle.generators.specs.Generators.{tick}
use Rattle.generators.proofs.Generators.tick.Goals as goal

pub returns : goal.returns
unfolding tick
returns c = rw (c.tick-envelope.ensures, c.tick-noise.ensures, c.tick-c.ensures, c.tick-b.ensures, c.tick-a.ensures)
