-- A checked dump, played frame after frame, and what is printed of it. 01, "The dump player". Assumes nothing.
use Rattle.std.specs.Prelude.{cond, List, [], ◌++◌, ℕ, zero, suc, ◌*◌, eqb}
use Rattle.refusals.specs.Numbers.{accepted}
use Rattle.text_lines.specs.Bytes.{bytes}
use Rattle.text_lines.specs.Lines.{line_at, value_at}
use Rattle.dump.specs.Checked.{verdict_of}
use Rattle.dump_words.specs.Words.{lines_of}
use Rattle.output_lines.specs.Lines.{refusal_text, total_text}
use Rattle.clocking_block.specs.Block.{after_words, words_of}
use Rattle.chip.specs.declared.Chip.{Chip}
use Rattle.calls_making.specs.Making.{with_clocks}
use Rattle.dump_frames.specs.Frame.{frame_chip}

-- frame f's line: its place, and its value
unfoldable pub frame_place : List ℕ → ℕ → ℕ
frame_place text zero = (verdict_of text).body
frame_place text (suc f) = (line_at text (frame_place text f)).next

abbrev pub value_of : List ℕ → ℕ → List ℕ
value_of text f = value_at (bytes "regs=") text (frame_place text f)

-- the chip before frame f: a new one of the dump's clocks, then what the frame before left
unfoldable pub chip_before : List ℕ → ℕ → Chip
chip_before text zero = (with_clocks (verdict_of text).master (verdict_of text).rate).chip
chip_before text (suc f) = after_words (verdict_of text).words (frame_chip (value_of text f) (chip_before text f))

-- frame f's words
unfoldable pub frame_words : List ℕ → ℕ → List ℕ
frame_words text f = words_of (verdict_of text).words (frame_chip (value_of text f) (chip_before text f))

-- the words of the first frames, in order
unfoldable pub words_in : List ℕ → ℕ → List ℕ
words_in text zero = []
words_in text (suc f) = words_in text f ++ frame_words text f

-- The whole output: a refusal, or the total and the words of each frame.
unfoldable pub printed : List ℕ → List ℕ
printed text =
    let v = verdict_of text in
    cond (eqb v.no accepted) (total_text (v.words * v.frames) ++ lines_of (words_in text v.frames))
    (refusal_text v.no v.line)
