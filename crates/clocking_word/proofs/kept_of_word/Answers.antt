-- `clocking_word::kept_of_word` meets its contract: an envelope in range gives a level index. Assumes nothing.
use Rattle.envelope.proofs.Circling.{envelope-level-lt}
use Rattle.clocking_word.specs.Word.{mixed_of}
use Rattle.clocking_word.proofs.kept_of_word.Goals as goal

pub kept-requires : goal.kept-requires
kept-requires c = record { envelope_bound = rw c.level-level.ensures (envelope-level-lt c.requires.envelope_in_range) }

pub returns : goal.returns
unfolding mixed_of
returns c = rw (c.kept.ensures, c.halves_of-halves.ensures, c.volumes_of-volumes.ensures, c.level-level.ensures)
