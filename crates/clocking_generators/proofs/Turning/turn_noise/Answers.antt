-- `clocking_generators::Turning::turn_noise` meets its contract. Assumes nothing.
use Rattle.laws.proofs.Tests.{tests}
use Rattle.clocking_generators.specs.Turning.{noise_turned}
use Rattle.clocking_generators.proofs.Held.{held-noise}
use Rattle.clocking_generators.proofs.Parts.{counts, steps}
use native.Mathlib.Omega.{arith}
use Rattle.clocking_generators.proofs.Turning.turn_noise.Goals as goal

pub returns-then-self : goal.returns-then-self
unfolding noise_turned
returns-then-self c = record { turned = search tests; held = held-noise _ _ _ _ c.requires c.requires.noise }

pub returns-then-count-at_least_one : goal.returns-then-count-at_least_one
returns-then-count-at_least_one c = record { turned = search counts; held = held-noise _ _ _ _ c.requires (omega (arith, c.at_least_one.ensures)) }

pub returns : goal.returns
returns c = record { turned = search steps; held = held-noise _ _ _ _ c.requires (omega arith) }
