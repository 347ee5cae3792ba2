-- The player as a value: where it stands, and the piece of the output that it hands out next. 01, "The dump player". Assumes nothing.
use Rattle.std.specs.Prelude.{cond, List, [], ℕ, eqb, ltb, length}
use Rattle.refusals.specs.Numbers.{accepted}
use Rattle.text_lines.specs.Bytes.{bytes}
use Rattle.text_lines.specs.Lines.{line_at, value_at}
use Rattle.dump.specs.Checked.{verdict_of}
use Rattle.answers.specs.declared.Answered.{Answered}
use Rattle.answers.specs.declared.Blocked.{Blocked}
use Rattle.calls_making.specs.Making.{with_clocks}
use Rattle.calls_words.specs.Blocks.{blocked}
use Rattle.clocking_block.specs.Block.{words_of}
use Rattle.dump_frames.specs.Frame.{frame_loaded}
use Rattle.dump_output.specs.Printed.{first_line}
use Rattle.dump_words.specs.Words.{lines_of}
use Rattle.dump_progress.specs.Progress.{nothing_given, first_line_given, frame_due, frame_begins, words_for, words_given}
use Rattle.dump_player.specs.declared.Player.{Player}
use Rattle.dump_player.specs.declared.Piece.{Piece}

-- Before the first byte: "The whole dump is checked first".
unfoldable pub start_of : List ℕ → Player
start_of text =
    let v = verdict_of text in
    record { verdict = v; at = v.body; chip = (with_clocks v.master v.rate).chip; progress = nothing_given }

-- The first line: a refusal's, or the total's.
unfoldable pub first_piece : Player → Piece
first_piece p =
    record {
      player = record { verdict = p.verdict; at = p.at; chip = p.chip; progress = first_line_given p.progress };
      length = length (first_line p.verdict);
    }

-- "Each frame writes R0..R13 at once in order": it begins, where it is due. (No frame of a checked dump is refused.)
abbrev pub loaded_from : List ℕ → Player → Answered
loaded_from text p = frame_loaded (value_at (bytes "regs=") text p.at) p.chip

unfoldable pub frame_begun : List ℕ → Player → Player
frame_begun text p =
    let l = loaded_from text p in
    cond (eqb l.no accepted)
    (record { verdict = p.verdict; at = (line_at text p.at).next; chip = l.chip; progress = frame_begins p.verdict.words p.progress })
    p

unfoldable pub readied : List ℕ → Player → Player
readied text p = cond (frame_due p.verdict.frames p.progress) (frame_begun text p) p

-- "then renders its words": as many of those left as there is room for.
abbrev pub rendered : ℕ → Player → Blocked
rendered room p = blocked (words_for room p.progress) p.chip

abbrev pub nothing : Player → Piece
nothing p = record { player = p; length = 0 }

unfoldable pub word_lines : ℕ → Player → List ℕ
word_lines room p = cond (eqb (rendered room p).answer.no accepted) (lines_of (words_of (words_for room p.progress) p.chip)) []

unfoldable pub words_piece : ℕ → Player → Piece
words_piece room p =
    cond (eqb (rendered room p).answer.no accepted)
    (record {
      player = record { verdict = p.verdict; at = p.at; chip = (rendered room p).chip; progress = words_given (words_for room p.progress) p.progress };
      length = length (word_lines room p);
    })
    (nothing p)

-- The shortest buffer that is filled: any first line has room in it, and five words. A shorter one gets nothing.
abbrev pub least_room : ℕ
least_room = 32

-- The next piece for a buffer of `room` bytes: its bytes, and how many they are with where the player stands then.
unfoldable pub bytes_of : List ℕ → ℕ → Player → List ℕ
bytes_of text room p =
    cond (ltb room least_room) []
    (cond p.progress.begun (word_lines room (readied text p))
    (first_line p.verdict))

unfoldable pub piece_of : List ℕ → ℕ → Player → Piece
piece_of text room p =
    cond (ltb room least_room) (nothing p)
    (cond p.progress.begun (words_piece room (readied text p))
    (first_piece p))
