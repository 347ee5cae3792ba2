-- A block of words, one after the other. 01, "One tick, one word". Assumes nothing.
use Rattle.std.specs.Prelude.{cond, List, [], ◌∷◌, ◌++◌, ℕ, zero, suc, ◌+◌, eqb, get_or}
use Rattle.queue.specs.declared.Queue.{Queue}
use Rattle.queue.specs.declared.Write.{Write}
use Rattle.chip.specs.declared.Core.{Core}
use Rattle.chip.specs.declared.Chip.{Chip}
use Rattle.clocking_word.specs.Word.{applied_by, word_of}
use Rattle.clocking_block.specs.declared.Rendered.{Rendered}

-- the chip of a core and a ring
abbrev pub chip_with : Core → Queue → Chip
chip_with core queue = record { core = core; queue = queue }

-- n words, one after the other: the chip and the ticks after them, and the words
abbrev pub after_one : Chip → Chip
after_one c = let w = word_of c.core c.queue in record { core = w.core; queue = w.queue }

unfoldable pub after_words : ℕ → Chip → Chip
after_words zero c = c
after_words (suc n) c = after_words n (after_one c)

unfoldable pub ticks_of : ℕ → Chip → ℕ
ticks_of zero c = 0
ticks_of (suc n) c = (word_of c.core c.queue).ticks + ticks_of n (after_one c)

unfoldable pub words_of : ℕ → Chip → List ℕ
words_of zero c = []
words_of (suc n) c = (word_of c.core c.queue).word ∷ words_of n (after_one c)

-- the waiting writes that they apply, word after word
unfoldable pub applied_of : ℕ → Chip → List Write
applied_of zero c = []
applied_of (suc n) c = applied_by c.core c.queue ++ applied_of n (after_one c)

-- what they leave of the core, of the ring's place and of its count, and their ticks; the ring's slots stay as they are
abbrev pub block_of : ℕ → Chip → Rendered
block_of n c = let d = after_words n c in record { core = d.core; head = d.queue.head; count = d.queue.count; ticks = ticks_of n c }

-- the stamp of the first waiting write, or one that no word's end is past
unfoldable pub next_due : List ℕ → ℕ → ℕ → ℕ
next_due stamps head count = cond (eqb count 0) 0xffff_ffff_ffff_ffff (get_or stamps head 0)
