-- A list of pitches as text, checked: a line `master=`, then lines `pitch=` up to the end. 02 names no such text: docs/DECISIONS.md, "A list of
-- pitches as text". Lines, decimals, form before range and 11 are those of 01, "The dump player"; 1 and 19 are 02's, request 12. Assumes nothing.
use Rattle.std.specs.Prelude.{ℕ, zero, suc, ◌+◌, cond, List, ltb, length, Option, Some, None, Result, Ok, Err}
use Rattle.refusals.specs.declared.Refusal.{Refusal}
use Rattle.refusals.specs.declared.Refusal.TheVariants.{MasterTooHigh, LineNotOfForm, DumpTooLong}
use Rattle.text_lines.specs.Bytes.{bytes}
use Rattle.text_entries.specs.Entries.{line_entry_at}
use Rattle.text_entries.specs.declared.Entry.{Entry}
use Rattle.dump_clocks.specs.Clocks.{at_line, and_then}
use Rattle.dump_clocks.specs.declared.LineRefused.{LineRefused}
use Rattle.pitch.specs.Pitch.{master_in, nearest_period}
use Rattle.notes_text.specs.declared.Asked.{Asked}

-- line 1, `master=`: 8, then "1, here also for a master below 8"
unfoldable pub master_line : Option ℕ → Result ℕ Refusal
master_line None = Err LineNotOfForm
master_line (Some master) = cond (master_in master) (Ok master) (Err MasterTooHigh)

-- a line `pitch=`: 8, then what the first call answers (1 is settled by line 1, so 0 or 19)
unfoldable pub period_line : ℕ → Option ℕ → Result ℕ Refusal
period_line master None = Err LineNotOfForm
period_line master (Some pitch) = nearest_period master pitch

unfoldable pub note_at : ℕ → List ℕ → ℕ → Entry (Result ℕ Refusal)
note_at master text at =
    let line = line_entry_at (bytes "pitch=") text at in
    record { value = period_line master line.value; next = line.next }

-- from a place to the text's end, with so many notes before it, the first on line 2: refused at a line, or how many they are; a line has a
-- byte or more, so as many steps as the text has bytes are enough
unfoldable pub notes_from : ℕ → List ℕ → ℕ → ℕ → ℕ → Result ℕ LineRefused
notes_from master text zero notes at = Ok notes
notes_from master text (suc steps) notes at =
    let note = note_at master text at in
    let more = notes_from master text steps (notes + 1) note.next in
    cond (ltb at (length text)) (and_then (at_line note.value (notes + 2)) (λ _. more)) (Ok notes)

-- 11 (line 0), line 1, then the others in order
unfoldable pub asked_in : List ℕ → Result Asked LineRefused
asked_in text =
    let one = line_entry_at (bytes "master=") text 0 in
    cond (ltb 65536 (length text)) (Err (record { why = DumpTooLong; line = 0 }))
    (and_then (at_line (master_line one.value) 1) (λ master.
    and_then (notes_from master text (length text) 0 one.next) (λ notes.
    Ok (record { master = master; notes = notes; body = one.next }))))
