-- The parts of a chip in range can be played. Assumes nothing.
use Rattle.chip.specs.declared.Chip.{Chip}
use Rattle.chip.proofs.InRange.{InRange, core-runs}
use Rattle.steps_words.specs.WordSteps.{chip_at, Playable}

-- a chip's parts, as the step takes them
abbrev pub parts : Chip → Chip
parts c = chip_at c.core.clocks c.core.variant c.core.voice c.core.channels c.core.accumulator c.core.start c.queue

pub playable : {c : Chip} → InRange c → Playable (parts c)
playable s = let k = core-runs s in (record { run = k.run; cycles = k.cycles; voice = k.voice }, s.queue)
