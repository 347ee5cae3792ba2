-- `word_sum::level_part` meets its contract: it joins its callees' promises, and the gated index is below 32. Assumes nothing.
use Rattle.levels.proofs.Laws.{gated-lt}
use Rattle.level_scale.proofs.Picking.{picked-lt}
use Rattle.word_sum.proofs.level_part.Goals as goal

pub loudness-requires : goal.loudness-requires
loudness-requires c = rw (c.gated_level-gated.ensures, c.picked-ungated.ensures) (search (picked-lt, gated-lt))

pub returns : goal.returns
returns c = rw (c.loudness.ensures, c.gated_level-gated.ensures, c.picked-ungated.ensures)
