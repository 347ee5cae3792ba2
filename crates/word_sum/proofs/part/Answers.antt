-- `word_sum::part` meets its contract: each return is one way of `heard`. Assumes nothing.
use Rattle.word_sum.proofs.Summing.{muted-part, sample-part, level-part}
use Rattle.word_sum.proofs.part.Goals as goal

pub returns-then-channel : goal.returns-then-channel
returns-then-channel c = search muted-part

pub returns-in-Sample : goal.returns-in-Sample
returns-in-Sample c = search sample-part

pub returns-in-Off : goal.returns-in-Off
returns-in-Off c = search level-part
