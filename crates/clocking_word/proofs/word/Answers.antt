-- `clocking::word` meets its contract: `proofs/Wording.antt` makes the word of what its calls give. Assumes nothing.
use Rattle.clocking_word.proofs.Wording.{drained-voice, run_in, word-is}
use Rattle.clocking_word.proofs.word.Goals as goal

pub run_ticks-ran-requires : goal.run_ticks-ran-requires
run_ticks-ran-requires c = record { clocks_run = c.requires.core_in_range.run; generators_in_range = (drained-voice _ _ c.drain_one-drained.ensures.small c.requires.core_in_range).generators }

pub mix_word-mixed-requires : goal.mix_word-mixed-requires
mix_word-mixed-requires c = record { envelope_in_range = run_in _ _ c.drain_one-drained.ensures.small c.run_ticks-ran.ensures c.requires.core_in_range }

pub returns : goal.returns
returns c = word-is _ _ c.drain_one-drained.ensures.small c.run_ticks-ran.ensures c.mix_word-mixed.ensures
