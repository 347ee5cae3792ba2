-- `mixer::mix` meets its contract: the three parts are what `sound` promises, and none is above 10922, so their sum fits. Assumes nothing.
use Rattle.mixer.proofs.Parts.{part-le, two-fit, three-fit, parts-mixed}
use Rattle.mixer.proofs.mix.Goals as goal

pub overflow_add-word : goal.overflow_add-word
overflow_add-word c = search (part-le, two-fit)

pub overflow_add-word-2 : goal.overflow_add-word-2
overflow_add-word-2 c = search (part-le, three-fit)

pub returns : goal.returns
returns c = search parts-mixed
