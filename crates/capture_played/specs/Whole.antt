-- A checked capture, played, and what is printed of it. 02, request 01. Assumes nothing.
use Rattle.std.specs.Prelude.{cond, List, ◌++◌, ℕ, eqb, length}
use Rattle.refusals.specs.Numbers.{accepted}
use Rattle.chip.specs.declared.Chip.{Chip}
use Rattle.calls_making.specs.Making.{with_clocks}
use Rattle.dump_words.specs.Words.{lines_of}
use Rattle.bus_writes.specs.declared.BusWrite.{BusWrite}
use Rattle.capture_writes.specs.Writes.{writes_from}
use Rattle.capture.specs.Checked.{capture_of}
use Rattle.capture_course.specs.Course.{Course, course}
use Rattle.capture_output.specs.Ends.{first_line, last_line}

-- the writes of a capture, in file order
abbrev pub writes_of : List ℕ → List BusWrite
writes_of text = writes_from text (capture_of text).writes (capture_of text).body

-- "Playing starts at cycle 0", on a new chip of the header's clocks
abbrev pub made_for : List ℕ → Chip
made_for text = (with_clocks (capture_of text).master (capture_of text).rate).chip

unfoldable pub course_of : List ℕ → Course
course_of text = course (capture_of text).words (writes_of text) (made_for text)

-- The whole output: a refusal; or the number of words asked, the words, and the last line.
unfoldable pub printed : List ℕ → List ℕ
printed text =
    let v = capture_of text in
    let c = course_of text in
    cond (eqb v.no accepted) (first_line v ++ lines_of c.words ++ last_line c.no v.writes (length c.rest))
    (first_line v)
