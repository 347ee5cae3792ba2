-- `clocking_generators::Turning::generators` meets its contract: its fields are those of `shown`. Assumes nothing.
use native.Mathlib.Omega.{arith}
use Rattle.clocking_generators.proofs.Held.{kept}
use Rattle.clocking_generators.specs.Turning.{shown}
use Rattle.clocking_generators.proofs.Turning.generators.Goals as goal

pub overflow_cast-c : goal.overflow_cast-c
overflow_cast-c c = record { fits = omega (arith, c.requires.c) }

pub overflow_cast-noise : goal.overflow_cast-noise
overflow_cast-noise c = record { fits = omega (arith, c.requires.noise) }

pub overflow_cast-envelope : goal.overflow_cast-envelope
overflow_cast-envelope c = record { fits = omega (arith, c.requires.envelope) }

pub returns : goal.returns
unfolding shown
returns c = rw (kept _ c.requires.position)
