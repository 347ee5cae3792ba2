-- Words leave the ring's slots as they are. Assumes nothing.
use mathlib.Core.Path.{◌≡◌, refl}
use Prim.Native.Nat.{ℕ, zero, suc}
use Rattle.queue.specs.Waiting.{ring}
use Rattle.queue_drain.specs.Drain.{drain}
use Rattle.chip.specs.declared.Chip.{Chip}
use Rattle.clocking_word.specs.Word.{drained, word_of}
use Rattle.clocking_block.specs.Block.{after_one, after_words, chip_with}

-- a chip with the ring's slots of another
abbrev with-slots : Chip → Chip → Chip
with-slots c d = chip_with d.core (ring c.queue.stamps c.queue.registers c.queue.values d.queue.head d.queue.count)

pub slots-stay : (n : ℕ) (c : Chip) → with-slots c (after_words n c) ≡ after_words n c
unfolding after_words word_of drained drain
slots-stay zero c = refl
slots-stay (suc n) c = slots-stay n (after_one c)
