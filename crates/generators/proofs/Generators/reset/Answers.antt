-- `generators::Generators::reset` meets its contract. Assumes nothing.
use Rattle.generators.specs.Reset.{generators_reset}
use Rattle.generators.proofs.Generators.reset.Goals as goal

pub returns : goal.returns
unfolding generators_reset
returns c = rw (c.reset-envelope.ensures, c.reset-noise.ensures, c.reset-c.ensures, c.reset-b.ensures, c.reset-a.ensures, c.power_on_edges-edges.ensures)
