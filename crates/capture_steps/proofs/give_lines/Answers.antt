-- `capture_steps::give_lines` meets its contract (`Giving`): no more words than are left. Assumes nothing.
use native.Mathlib.Omega.{arith}
use lib.ListN.{length}
use Rattle.capture_steps.proofs.Giving.{words-few, lines_none, lines-some}
use Rattle.capture_steps.proofs.give_lines.Goals as goal

pub returns-then-block-ne-ACCEPTED : goal.returns-then-block-ne-ACCEPTED
returns-then-block-ne-ACCEPTED c = let both = lines_none _ _ _ c.args.words.now c.requires c.block-block.ensures.answer c.if-block-ne-ACCEPTED.true in record { answer = both.0; buffer = both.1 }

pub overflow_sub-player : goal.overflow_sub-player
overflow_sub-player c = let a = c.args in omega (arith, words-few a.text.now (length a.out.now) a.player, c.requires)

pub returns : goal.returns
returns c = let both = lines-some _ _ _ c.args.words.now c.requires c.block-block.ensures.answer c.if-block-ne-ACCEPTED.false c.block-block.ensures.buffer c.put_words-length.ensures.place c.put_words-length.ensures.text in record { answer = both.0; buffer = both.1 }
