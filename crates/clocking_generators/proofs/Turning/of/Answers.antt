-- `clocking_generators::Turning::of` meets its contract. Assumes nothing.
use native.Mathlib.Omega.{arith}
use Rattle.clocking_generators.proofs.Held.{held_of, kept, position-mag}
use Rattle.clocking_generators.specs.Turning.{turning_of}
use Rattle.clocking_generators.proofs.Turning.of.Goals as goal

pub returns : goal.returns
unfolding turning_of
returns c = let p = c.args.generators.envelope.position in
    let same = kept p (position-mag p c.requires.envelope.position) in
    let edges = c.edges.ensures in (
      rw (edges, same),
      rw (edges, same)
          (held_of c.requires (omega arith) (omega arith) (omega arith) (omega arith) (omega arith)),
    )
