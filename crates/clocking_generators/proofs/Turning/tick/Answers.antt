-- `clocking_generators::Turning::tick` meets its contract: it is its three parts. Assumes nothing.
use Rattle.clocking_generators.specs.Turning.{turned}
use Rattle.clocking_generators.proofs.Turning.tick.Goals as goal

pub returns : goal.returns
unfolding turned
returns c = (rw (c.turn_noise.ensures.turned, c.turn_envelope.ensures.turned, c.turn_tones.ensures.turned), c.turn_noise.ensures.held)
