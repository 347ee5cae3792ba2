-- `dump_words::put_words` meets its contract: the first words have their lines (`Lining`). Assumes nothing.
use Rattle.dump_words.proofs.Lining.{Lining}
use Rattle.dump_words.proofs.put_words.Given as goal

abbrev pub invariant-loop-word : goal.invariant-loop-word
invariant-loop-word l = Lining l.initial.out l.at l.words l.out l.place l.word-index
