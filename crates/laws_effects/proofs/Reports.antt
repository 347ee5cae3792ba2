-- The claims of the reports, each by its law. Assumes nothing.
use Rattle.laws_effects.specs.Claims.{Reports}
use Rattle.laws_effects.proofs.OneCall.{write-port-immediate, write-register}
use Rattle.laws_effects.proofs.ManyWrites.{flush, load-changes, load-registers, load-restarts}
use Rattle.laws_effects.proofs.Words.{block-applies, block-counted, one_word, word-counted}
use Rattle.laws_effects.proofs.Parts.{in_two}
use Rattle.laws_effects.proofs.WordByWord.{words}
use Rattle.laws_effects.proofs.OneByOne.{one_by_one}

pub reports : Reports
reports =
    record {
      write-register = write-register;
      write-port-immediate = write-port-immediate;
      load-registers = load-registers;
      load-restarts = load-restarts;
      load-changes = load-changes;
      flush = flush;
      word = word-counted;
      block = block-counted;
      block-applies = block-applies;
      one_by_one = one_by_one;
      one_word = one_word;
      words = words;
      in_two = in_two;
    }
