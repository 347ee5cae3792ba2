-- `write_effects::differences` meets its contract: the invariant and its steps are laws of `proofs/Differing.antt`. Assumes nothing.
use native.Mathlib.Omega.{arith}
use lib.ListN.{length-append}
use Rattle.std.proofs.lemmas.Slice.Zip.{zip_turn, zip_end}
use Rattle.write_effects.proofs.Differing.{differing-on, differing-end}
use Rattle.write_effects.proofs.differences.Goals as goal

pub loop-old-preserved : goal.loop-old-preserved
loop-old-preserved c =
    let t = zip_turn c.args.before c.args.after c.loop-old.yielded c.into_iter-old-iterator.result _ c.next.new.self _ (cc) (cc) c.loop-old.yielded_by _ c.in-Some.is c.next.ensures.steps in
    simp length-append (differing-on c.loop-old.invariant (omega arith) (rw (t.2 0, t.3 0) at c.counted-found.ensures))

pub returns : goal.returns
returns c =
    let t = zip_end c.args.before c.args.after c.loop-old.yielded c.into_iter-old-iterator.result _ c.next.new.self _ (cc) (cc) c.loop-old.yielded_by c.in-None.is c.next.ensures.steps in
    differing-end c.loop-old.invariant (omega arith)
