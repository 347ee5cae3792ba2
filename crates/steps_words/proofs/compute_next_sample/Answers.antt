-- `steps_words::compute_next_sample` meets its contract: the test, then that of a block of one, say which case holds. Assumes nothing.
use mathlib.Core.Path.{◌∙◌}
use Prim.Native.Nat.{ℕ, ◌+◌, ◌*◌, ◌^◌, ◌<◌}
use native.Mathlib.Omega.{arith}
use Rattle.refusals.proofs.Tested.{accepted-by, number-some, refused-by}
use Rattle.block_limits.specs.Limits.{block_number}
use Rattle.block_limits.proofs.Fits.{fits}
use Rattle.steps_words.proofs.Cases.{no_more, step-out, step-late, step-played}
use mathlib.Core.Bool.{not}
use mathlib.Core.Path.{ap, refl}
use Rattle.steps_words.proofs.compute_next_sample.Goals as goal

pub returns-then-not-ok : goal.returns-then-not-ok
returns-then-not-ok c = c.unplayed.ensures ∙ step-out _ _ (ap not c.if-not-ok.true)

pub returns-in-Err : goal.returns-in-Err
unfolding block_number
returns-in-Err c =
    rw (c.unplayed-in-Err.ensures, c.number.ensures)
    (step-late _ _ (ap not c.if-not-ok.false) (refused-by c.accept_block.ensures c.in-Err.is) (number-some _))

one-soon : (start cycles : ℕ) → start + 1 * cycles < 2 ^ 64 → start + cycles < 2 ^ 64
one-soon start cycles h = omega arith

pub word-worded-requires-clause-cycles_bound : goal.word-worded-requires-clause-cycles_bound
unfolding block_number
word-worded-requires-clause-cycles_bound c = one-soon _ _ (fits 1 _ _ (accepted-by c.accept_block.ensures c.in_default.is)).soon

-- what the word left to wait is no more than waited
pub overflow_sub-count : goal.overflow_sub-count
overflow_sub-count c = no_more _ c.word-worded.ensures

pub returns : goal.returns
unfolding block_number
returns c =
    step-played _ _ (ap not c.if-not-ok.false) refl (accepted-by c.accept_block.ensures c.in_default.is) c.word-worded.ensures c.effects-told.ensures
