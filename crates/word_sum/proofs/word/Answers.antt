-- `word_sum::word` meets its contract: no part is above 10922, so their sum fits a `u16`. Assumes nothing.
use Rattle.mixer.proofs.Parts.{two-fit, three-fit}
use Rattle.word_sum.proofs.Summing.{part-le, parts-summed}
use Rattle.word_sum.proofs.word.Goals as goal

pub overflow_add-result : goal.overflow_add-result
overflow_add-result c = search (part-le, two-fit)

pub overflow_add-result-2 : goal.overflow_add-result-2
overflow_add-result-2 c = search (part-le, three-fit)

pub returns : goal.returns
returns c = search parts-summed
