-- `dump_words::put_words` meets its contract: the first words have their lines (`Lining`). Assumes nothing.
use Rattle.dump_words.proofs.Lining.{lining-start, lining-on, lining-long, lining_ends}
use Rattle.dump_words.proofs.put_words.Goals as goal

pub loop-word-init : goal.loop-word-init
loop-word-init c = search lining-start

pub loop-word-preserved : goal.loop-word-preserved
loop-word-preserved c =
    lining-on c.loop-word.invariant c.loop-word-test.true (c.type_inv.words c.loop-word.word-index).fits c.put_number-place.ensures.place c.put_number-place.ensures.text

pub shape_of-out : goal.shape_of-out
shape_of-out c = lining-long c.loop-word.invariant

pub returns : goal.returns
returns c = let both = lining_ends c.loop-word.invariant c.loop-word-test.false in record { place = both.0; text = both.1 }
