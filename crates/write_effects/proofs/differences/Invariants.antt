-- `write_effects::differences` meets its contract: the invariant and its steps are laws of `proofs/Differing.antt`. Assumes nothing.
use lib.ListN.{length}
use Rattle.write_effects.proofs.Differing.{Differing}
use Rattle.write_effects.proofs.differences.Given as goal

abbrev pub invariant-loop-old : goal.invariant-loop-old
invariant-loop-old l = Differing l.fn.before l.fn.after l.found (length l.yielded)
