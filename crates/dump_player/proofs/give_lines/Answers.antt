-- `dump_player::give_lines` meets its contract (`Giving`). Assumes nothing.
use Rattle.dump_player.proofs.Giving.{lines_none, lines-some}
use Rattle.dump_player.proofs.give_lines.Goals as goal

pub returns-then-block-ne-ACCEPTED : goal.returns-then-block-ne-ACCEPTED
returns-then-block-ne-ACCEPTED c = let both = lines_none _ _ c.args.words.now c.requires c.block-block.ensures.answer c.if-block-ne-ACCEPTED.true in record { answer = both.0; buffer = both.1 }

pub returns : goal.returns
returns c = let both = lines-some _ _ c.args.words.now c.requires c.block-block.ensures.answer c.if-block-ne-ACCEPTED.false c.block-block.ensures.buffer c.put_words-length.ensures.place c.put_words-length.ensures.text c.words_given-progress.ensures in record { answer = both.0; buffer = both.1 }
