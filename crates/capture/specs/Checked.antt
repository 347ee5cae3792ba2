-- The whole check of a capture. 02, request 01; the whole is checked first, line by line, as 01 checks a dump. Assumes nothing.
use Rattle.std.specs.Prelude.{ℕ, List, Result, Ok, Err}
use Rattle.refusals.specs.Numbers.{accepted, number_of}
use Rattle.text_lines.specs.Bytes.{bytes}
use Rattle.text_entries.specs.Entries.{line_entry_at}
use Rattle.dump_clocks.specs.Clocks.{at_line, clock_lines}
use Rattle.dump_clocks.specs.declared.LineRefused.{LineRefused}
use Rattle.capture_lines.specs.OneLine.{writes_line, words_line}
use Rattle.capture_writes.specs.Writes.{◌>>=◌}
use Rattle.capture_body.specs.Walk.{writes_read}
use Rattle.capture.specs.declared.Capture.{Capture}
use Rattle.capture.specs.declared.Captured.{Captured}

-- "Lines in order: `master=`, `rate=`, `writes=` (0..1,500), `words=` (1..65,536), then per write ..", from line 5 on. The first write has
-- no stamp before it, and no stamp is lower than 0.
unfoldable pub checked : List ℕ → Result Capture LineRefused
checked text = do
  clocks ← clock_lines text
  let three = line_entry_at (bytes "writes=") text clocks.third
  writes ← at_line (writes_line three.value) 3
  let four = line_entry_at (bytes "words=") text clocks.fourth
  words ← at_line (words_line four.value) 4
  read ← writes_read text writes 5 0 four.next
  Ok (record { master = clocks.master; rate = clocks.rate; writes = writes; words = words; body = four.next })

-- The same in numbers: of an accepted capture number and line are 0, and of a refused one the rest is 0.
abbrev pub refused_at : ℕ → ℕ → Captured
refused_at number line = record { no = number; line = line; master = 0; rate = 0; writes = 0; words = 0; body = 0 }

abbrev pub accepted_with : ℕ → ℕ → ℕ → ℕ → ℕ → Captured
accepted_with master rate writes words body =
    record { no = accepted; line = 0; master = master; rate = rate; writes = writes; words = words; body = body }

abbrev pub told_capture : Result Capture LineRefused → Captured
told_capture (Ok c) = accepted_with c.master c.rate c.writes c.words c.body
told_capture (Err refused) = refused_at (number_of refused.why) refused.line

unfoldable pub capture_of : List ℕ → Captured
capture_of text = told_capture (checked text)
