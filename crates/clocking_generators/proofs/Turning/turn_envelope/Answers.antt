-- `clocking_generators::Turning::turn_envelope` meets its contract. Assumes nothing.
use Rattle.laws.proofs.Tests.{tests}
use Rattle.clocking_generators.specs.Turning.{envelope_turned}
use Rattle.clocking_generators.proofs.Held.{held-envelope, next-kept, next-mag}
use Rattle.clocking_generators.proofs.Parts.{moves}
use native.Mathlib.Omega.{arith}
use Rattle.clocking_generators.proofs.Turning.turn_envelope.Goals as goal

pub returns-then-count-period : goal.returns-then-count-period
unfolding envelope_turned
returns-then-count-period c = record { turned = search tests; held = held-envelope _ _ c.requires (omega arith) c.requires.position }

pub returns-else-count-period : goal.returns-else-count-period
returns-else-count-period c = let next = next-kept _ c.requires.position c.next_position-position.ensures in record { turned = moves c.args.self c.if-count-period.false next; held = rw next (held-envelope 0 _ c.requires (omega arith) (next-mag _ c.requires.position)) }
