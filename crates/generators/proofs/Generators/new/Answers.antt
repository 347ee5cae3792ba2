-- `generators::Generators::new` meets its contract. Assumes nothing.
use Rattle.generators.proofs.Generators.new.Goals as goal

pub returns : goal.returns
returns c = rw (c.reset.ensures, c.reset-tone.ensures)
