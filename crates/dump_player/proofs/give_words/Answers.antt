-- `dump_player::give_words` meets its contract: the words asked for fit the buffer for them. Assumes nothing.
use lib.Seq.{length-take-le}
use native.Mathlib.Omega.{arith}
use mathlib.Core.Path.{sym, ◌∙◌}
use Rattle.dump_player.proofs.give_words.Goals as goal

pub slice_bounds-give_lines-end : goal.slice_bounds-give_lines-end
slice_bounds-give_lines-end c = sym (length-take-le _ _ (omega (arith, c.words_for-n.ensures)))

pub give_lines-requires : goal.give_lines-requires
give_lines-requires c = length-take-le _ _ (omega (arith, c.words_for-n.ensures)) ∙ c.words_for-n.ensures
