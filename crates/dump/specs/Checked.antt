-- The whole check of a dump. 01, "The dump player": "The whole dump is checked first". Assumes nothing.
use Rattle.std.specs.Prelude.{ℕ, zero, suc, ◌+◌, cond, List, ltb, length, Result, Ok, Err}
use Rattle.refusals.specs.Numbers.{accepted, number_of}
use Rattle.refusals.specs.declared.Refusal.TheVariants.{LineNotOfForm, BytesAfterTheEnd}
use Rattle.text_lines.specs.Bytes.{bytes}
use Rattle.text_lines.specs.Lines.{line_at}
use Rattle.text_entries.specs.Entries.{line_entry_at}
use Rattle.dump_lines.specs.OneLine.{words_line, frames_line, frame_at}
use Rattle.dump_clocks.specs.Clocks.{at_line, and_then, clock_lines}
use Rattle.dump_clocks.specs.declared.ClockLines.{ClockLines}
use Rattle.dump_clocks.specs.declared.LineRefused.{LineRefused}
use Rattle.dump.specs.declared.Dump.{Dump}
use Rattle.dump.specs.declared.Verdict.{Verdict}

-- the frames' lines; then 10 at the line after the last
unfoldable pub frames_from : List ℕ → ℕ → ℕ → ℕ → Result (Unit {0}) LineRefused
frames_from text zero line at = cond (ltb at (length text)) (Err (record { why = BytesAfterTheEnd; line = line })) (Ok tt)
frames_from text (suc left) line at =
    let more = frames_from text left (line + 1) (line_at text at).next in
    cond (frame_at text at) more
    (Err (record { why = LineNotOfForm; line = line }))

-- lines 3 and 4 (9), then the frames
unfoldable pub sized : List ℕ → ClockLines → Result Dump LineRefused
sized text k =
    let three = line_entry_at (bytes "words=") text k.third in
    let four = line_entry_at (bytes "frames=") text k.fourth in
    and_then (at_line (words_line three.value) 3) (λ words.
    and_then (at_line (frames_line four.value) 4) (λ frames.
    and_then (frames_from text frames 5 four.next) (λ _.
    Ok (record { master = k.master; rate = k.rate; words = words; frames = frames; body = four.next }))))

-- The whole dump is checked first: 11 (line 0), then line by line, form before range (1 on line 1; 2, 3 on line 2; 9 on
-- lines 3 and 4), then 10 at the line after the last. 11, 1, 2 and 3 are told by the clock lines.
unfoldable pub checked : List ℕ → Result Dump LineRefused
checked text = and_then (clock_lines text) (sized text)

-- A check's numbers: `no` 0 is accepted, and `line` is 0; any other is the refusal's, at its line, and the rest is 0.
unfoldable pub told : Result Dump LineRefused → Verdict
told (Ok d) = record { no = accepted; line = 0; master = d.master; rate = d.rate; words = d.words; frames = d.frames; body = d.body }
told (Err e) = record { no = number_of e.why; line = e.line; master = 0; rate = 0; words = 0; frames = 0; body = 0 }

abbrev pub verdict_of : List ℕ → Verdict
verdict_of text = told (checked text)
