-- What holds of a course. Nothing here is proved; `courses : Courses` is, in `proofs/Claimed.antt`. Assumes nothing.
use Rattle.std.specs.Prelude.{cond, List, [], ◌∷◌, ◌++◌, ◌≡◌, ℕ, ◌+◌, ◌*◌, ◌<◌, leb}
use Rattle.refusals.specs.Numbers.{accepted, queue_full}
use Rattle.queue.specs.Waiting.{waiting}
use Rattle.chip.specs.declared.Chip.{Chip}
use Rattle.clocking_word.specs.Word.{end_of}
use Rattle.clocking_block.specs.Block.{after_words, words_of}
use Rattle.calls_making.specs.Making.{with_clocks}
use Rattle.calls_ports.specs.Ports.{bit1_clear}
use Rattle.bus_writes.specs.Due.{is_due}
use Rattle.bus_writes.specs.declared.BusWrite.{BusWrite}
use Rattle.capture_course.specs.Course.{Course, course}

-- The next write is stamped after an end, or there is none: then none is due by it.
abbrev pub NoneBy : ℕ → List BusWrite → Type 0
NoneBy end [] = Unit {0}
NoneBy end (w ∷ ws) = end < w.stamp

-- some words, and the course from where they end
abbrev pub followed_by : List ℕ → Course → Course
followed_by words more = record { words = words ++ more.words; rest = more.rest; no = more.no; chip = more.chip }

-- how many data writes (port bit 1 set) are due by an end
abbrev pub data_due : ℕ → List BusWrite → ℕ
data_due end [] = 0
data_due end (w ∷ ws) = cond (is_due end w) (cond (bit1_clear w.port) (data_due end ws) (data_due end ws + 1)) 0

-- the new chip that a course starts on
abbrev pub made : ℕ → ℕ → Chip
made master rate = (with_clocks master rate).chip

pub record Courses : Type 0 where
  -- Blocks between writes give the same words as one word after the other: n words by whose last end no write is due are one block, and what
  -- is left, the number and the chip are the same.
  pub blocks : (n m : ℕ) (ws : List BusWrite) (c : Chip) → NoneBy (c.core.start + n * c.core.clocks.cycles) ws
      → course (n + m) ws c ≡ followed_by (words_of n c) (course m ws (after_words n c))
  -- "Before each word, the writes stamped at or before its end are passed": each takes part in that word, so that after it nothing waits
  -- and no write that is left is stamped at or before its end.
  pub none-waits : (master rate n : ℕ) (ws : List BusWrite) → (course n ws (made master rate)).no ≡ accepted
      → waiting (course n ws (made master rate)).chip.queue ≡ []
  pub none-due : (master rate n : ℕ) (ws : List BusWrite) → (course (n + 1) ws (made master rate)).no ≡ accepted
      → NoneBy (course (n + 1) ws (made master rate)).chip.core.start (course (n + 1) ws (made master rate)).rest
  -- 4, at the 257th data write between two ends: after n words the next is refused exactly where more than 256 are due by its end.
  pub full : (master rate n : ℕ) (ws : List BusWrite) → (course n ws (made master rate)).no ≡ accepted
      → (course (n + 1) ws (made master rate)).no
      ≡ cond (leb (data_due (end_of (course n ws (made master rate)).chip.core) (course n ws (made master rate)).rest) 256) accepted queue_full
