-- `standard_input::read_into` keeps its invariant: a read puts its bytes behind those that stand there. Assumes nothing.
use Rattle.std.proofs.Common.{rules, sym, subst}
use Rattle.std.proofs.KnownBytes.{Consumes-trans}
use Rattle.std.specs.Io.KnownBytes.{Consumes}
use Rattle.standard_input.proofs.Filling.{filled_on}
use Rattle.standard_input.proofs.read_into.Goals as goal

pub loop-bytes-preserved : goal.loop-bytes-preserved
loop-bytes-preserved g c = (
  search rules,
  subst (Consumes _ _) (sym (filled_on _ _ _ _ _ c.loop-bytes.invariant.0 c.in-Ok.ensures.bound.0)) (Consumes-trans _ _ _ _ _ c.loop-bytes.invariant.1 c.in-Ok.ensures.bytes.0),
)
