-- `generators::Generators::set_tone_period` meets its contract. Assumes nothing.
use Rattle.generators.specs.Generators.{tones_set}
use Rattle.generators.proofs.Generators.set_tone_period.Goals as goal

pub returns : goal.returns
unfolding tones_set
returns c = rw (c.put.ensures, c.set_period.ensures, c.at.ensures)
