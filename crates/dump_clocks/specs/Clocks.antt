-- A text's first two lines, its clocks. 01, "The dump player": "in this order: `master=`, `rate=`". Assumes nothing.
use Rattle.std.specs.Prelude.{ℕ, cond, List, ltb, length, Result, Ok, Err}
use Rattle.refusals.specs.declared.Refusal.{Refusal}
use Rattle.refusals.specs.declared.Refusal.TheVariants.{DumpTooLong}
use Rattle.text_lines.specs.Bytes.{bytes}
use Rattle.text_lines.specs.Lines.{line_at}
use Rattle.text_entries.specs.Entries.{line_entry_at}
use Rattle.dump_lines.specs.OneLine.{master_line, rate_line}
use Rattle.dump_clocks.specs.declared.ClockLines.{ClockLines}
use Rattle.dump_clocks.specs.declared.LineRefused.{LineRefused}

-- what is read of a line, or its refusal there
abbrev pub at_line : {T : Type 0} → Result T Refusal → ℕ → Result T LineRefused
at_line (Ok read) line = Ok read
at_line (Err why) line = Err (record { why = why; line = line })

-- and then the next line, where this one is not refused
abbrev pub and_then : {T U E : Type 0} → Result T E → (T → Result U E) → Result U E
and_then (Ok read) next = next read
and_then (Err why) next = Err why

-- 11 (line 0), then line by line, form before range (1 on line 1; 2, 3 on line 2); then the places of lines 3 and 4
unfoldable pub clock_lines : List ℕ → Result ClockLines LineRefused
clock_lines text =
    let one = line_entry_at (bytes "master=") text 0 in
    let two = line_entry_at (bytes "rate=") text one.next in
    cond (ltb 65536 (length text)) (Err (record { why = DumpTooLong; line = 0 }))
    (and_then (at_line (master_line one.value) 1) (λ master.
    and_then (at_line (rate_line master two.value) 2) (λ rate.
    Ok (record { master = master; rate = rate; third = two.next; fourth = (line_at text two.next).next }))))
