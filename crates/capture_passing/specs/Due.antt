-- What is due before a word, out of the text. 02, request 01. `pass_due` on the page of the course says the same of the writes as a list.
-- Assumes nothing.
use Rattle.std.specs.Prelude.{cond, List, ℕ, zero, suc, min, eqb}
use Rattle.refusals.specs.Numbers.{accepted, out_of_range}
use Rattle.chip.specs.declared.Chip.{Chip}
use Rattle.chip.specs.Range.{chip_in}
use Rattle.clocking_word.specs.Word.{end_of}
use Rattle.calls_words.specs.Blocks.{block_no}
use Rattle.bus.specs.Passing.{pass_write}
use Rattle.bus_writes.specs.Due.{is_due, words_before}
use Rattle.capture_writes.specs.Writes.{write_at}
use Rattle.capture_passing.specs.declared.Passing.{Passing}

abbrev pub stopped : Chip → ℕ → ℕ → ℕ → Passing
stopped c at writes number = record { chip = c; at = at; writes = writes; no = number }

-- "the writes stamped at or before its end are passed to the ports in file order". (No line of a checked capture is bad.)
unfoldable pub pass_from : List ℕ → ℕ → ℕ → ℕ → Chip → Passing
pass_from text end zero at c = stopped c at 0 accepted
pass_from text end (suc left) at c =
    let w = write_at text 0 at in
    let p = pass_write w.write c in
    let more = pass_from text end left w.next p.chip in
    cond (eqb w.no accepted)
    (cond (is_due end w.write) (cond (eqb p.no accepted) more (stopped c at (suc left) p.no))
    (stopped c at (suc left) accepted))
    (stopped c at (suc left) w.no)

-- the number of the next word: 22 of a record out of range, 6 where it would end past cycle 2^64 - 1 (a player's own record meets neither)
abbrev pub word_no : Chip → ℕ
word_no c = cond (chip_in c) (block_no 1 c) out_of_range

unfoldable pub pass_due_from : List ℕ → ℕ → ℕ → Chip → Passing
pass_due_from text writes at c = cond (eqb (word_no c) accepted) (pass_from text (end_of c.core) writes at c) (stopped c at writes (word_no c))

-- of `words` words those before which nothing need be passed: all, where no write is left
unfoldable pub free_words : List ℕ → ℕ → ℕ → ℕ → ℕ → ℕ → ℕ
free_words text writes at start cycles words =
    cond (eqb writes 0) words (min (words_before start cycles (write_at text 0 at).write.stamp) words)
