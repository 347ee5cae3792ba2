-- What is printed of a list of pitches: `period=P` for each, or `refused=R line=L` and no more. docs/DECISIONS.md, "A list of pitches as text";
-- 02, request 12. Assumes nothing.
use Rattle.std.specs.Prelude.{ℕ, zero, suc, cond, List, [], ◌++◌, ltb, Result, Ok, Err}
use Rattle.refusals.specs.Numbers.{number_of}
use Rattle.refusals.specs.declared.Refusal.{Refusal}
use Rattle.dump_clocks.specs.declared.LineRefused.{LineRefused}
use Rattle.text_lines.specs.Bytes.{bytes}
use Rattle.text_put.specs.Text.{number_text}
use Rattle.output_lines.specs.Lines.{refusal_text}
use Rattle.notes_text.specs.Checked.{asked_in, note_at}
use Rattle.notes_text.specs.declared.Asked.{Asked}

-- `period=P`
abbrev pub period_text : ℕ → List ℕ
period_text period = bytes "period=" ++ number_text period 10

-- "A refusal returns period 0"
abbrev pub period_of : Result ℕ Refusal → ℕ
period_of (Ok period) = period
period_of (Err why) = 0

-- the lines of so many notes, from a place on
unfoldable pub lines_from : ℕ → List ℕ → ℕ → ℕ → List ℕ
lines_from master text zero at = []
lines_from master text (suc notes) at =
    let note = note_at master text at in
    period_text (period_of note.value) ++ lines_from master text notes note.next

-- the whole is checked first
abbrev pub outcome : List ℕ → Result Asked LineRefused → List ℕ
outcome text (Ok asked) = lines_from asked.master text asked.notes asked.body
outcome text (Err refused) = refusal_text (number_of refused.why) refused.line

unfoldable pub printed : List ℕ → List ℕ
printed text = outcome text (asked_in text)

-- the bytes that any output has room in: 65,536 / 8 lines of 12
abbrev pub most : ℕ
most = 98304

-- a shorter buffer gets nothing
unfoldable pub printed_in : ℕ → List ℕ → List ℕ
printed_in room text = cond (ltb room most) [] (printed text)
