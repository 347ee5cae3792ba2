-- The player of captures as a value: where it stands, and the lines of the output that it hands out next. 02, request 01. Assumes nothing.
use Rattle.std.specs.Prelude.{true, false, not, cond, List, [], ℕ, ◌-◌, eqb, ltb, length}
use Rattle.refusals.specs.Numbers.{accepted}
use Rattle.chip.specs.declared.Chip.{Chip}
use Rattle.calls_making.specs.Making.{with_clocks}
use Rattle.calls_words.specs.Blocks.{blocked}
use Rattle.clocking_block.specs.Block.{words_of}
use Rattle.answers.specs.declared.Blocked.{Blocked}
use Rattle.dump_words.specs.Words.{lines_of}
use Rattle.dump_progress.specs.Progress.{words_in}
use Rattle.capture.specs.Checked.{capture_of}
use Rattle.capture_passing.specs.Due.{pass_due_from, free_words}
use Rattle.capture_passing.specs.declared.Passing.{Passing}
use Rattle.capture_output.specs.Ends.{first_line, last_line}
use Rattle.capture_steps.specs.declared.Player.{Player}
use Rattle.capture_steps.specs.declared.Piece.{Piece}

-- Before the first byte, on a new chip of the header's clocks. Of a refused capture the first line is the last.
unfoldable pub start_of : List ℕ → Player
start_of text =
    let v = capture_of text in
    record {
      verdict = v;
      chip = (with_clocks v.master v.rate).chip;
      at = v.body;
      writes = v.writes;
      words = v.words;
      begun = false;
      ended = not (eqb v.no accepted);
    }

-- how a player changes
abbrev pub begins : Player → Player
begins p = record { verdict = p.verdict; chip = p.chip; at = p.at; writes = p.writes; words = p.words; begun = true; ended = p.ended }

abbrev pub ends : Player → Player
ends p = record { verdict = p.verdict; chip = p.chip; at = p.at; writes = p.writes; words = p.words; begun = p.begun; ended = true }

abbrev pub passes : Passing → Player → Player
passes d p = record { verdict = p.verdict; chip = d.chip; at = d.at; writes = d.writes; words = p.words; begun = p.begun; ended = p.ended }

abbrev pub renders : ℕ → Chip → Player → Player
renders n c p = record { verdict = p.verdict; chip = c; at = p.at; writes = p.writes; words = p.words - n; begun = p.begun; ended = p.ended }

abbrev pub piece : Player → List ℕ → Piece
piece p lines = record { player = p; length = length lines }

-- the first line
abbrev pub first_step : Player → Piece
first_step p = piece (begins p) (first_line p.verdict)

-- the last one, with so many writes left
abbrev pub last_line_of : ℕ → ℕ → Player → List ℕ
last_line_of number left p = last_line number p.verdict.writes left

abbrev pub last_step : ℕ → ℕ → Player → Piece
last_step number left p = piece (ends p) (last_line_of number left p)

-- As many words as need nothing passed before them, and of those as many as have room.
abbrev pub free_for : List ℕ → Player → ℕ
free_for text p = free_words text p.writes p.at p.chip.core.start p.chip.core.clocks.cycles p.words

abbrev pub words_for : List ℕ → ℕ → Player → ℕ
words_for text room p = words_in room (free_for text p)

abbrev pub rendered : List ℕ → ℕ → Player → Blocked
rendered text room p = blocked (words_for text room p) p.chip

unfoldable pub word_lines : List ℕ → ℕ → Player → List ℕ
word_lines text room p = cond (eqb (rendered text room p).answer.no accepted) (lines_of (words_of (words_for text room p) p.chip)) []

unfoldable pub words_step : List ℕ → ℕ → Player → Piece
words_step text room p =
    cond (eqb (rendered text room p).answer.no accepted)
    (piece (renders (words_for text room p) (rendered text room p).chip p) (word_lines text room p))
    (piece p [])

-- "Before each word, the writes stamped at or before its end are passed": then words, or the line of the write that was refused.
abbrev pub passed_by : List ℕ → Player → Passing
passed_by text p = pass_due_from text p.writes p.at p.chip

unfoldable pub course_lines : List ℕ → ℕ → Player → List ℕ
course_lines text room p =
    let d = passed_by text p in
    cond (eqb d.no accepted) (word_lines text room (passes d p)) (last_line_of d.no d.writes p)

unfoldable pub course_step : List ℕ → ℕ → Player → Piece
course_step text room p =
    let d = passed_by text p in
    cond (eqb d.no accepted) (words_step text room (passes d p)) (last_step d.no d.writes p)

-- The shortest buffer that is filled: any line that is printed has room in it. A shorter one gets nothing.
abbrev pub least_room : ℕ
least_room = 32

-- The next lines for a buffer of `room` bytes; and how many bytes they are, with where the player stands then.
unfoldable pub step_lines : List ℕ → ℕ → Player → List ℕ
step_lines text room p =
    cond (ltb room least_room) []
    (cond p.begun
    (cond p.ended []
    (cond (eqb p.words 0) (last_line_of accepted p.writes p)
    (course_lines text room p)))
    (first_line p.verdict))

unfoldable pub step_of : List ℕ → ℕ → Player → Piece
step_of text room p =
    cond (ltb room least_room) (piece p [])
    (cond p.begun
    (cond p.ended (piece p [])
    (cond (eqb p.words 0) (last_step accepted p.writes p)
    (course_step text room p)))
    (first_step p))
