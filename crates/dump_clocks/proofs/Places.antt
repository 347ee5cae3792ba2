-- What stands at the reader's places is what `clock_lines` reads. Assumes nothing.
use mathlib.Core.Path.{◌≡◌, sym, ◌∙◌, ap}
use mathlib.Core.List.{List}
use Prim.Native.Nat.{ℕ, ◌≤◌}
use borrow.Author.Tests.{le-ltb}
use lib.ListN.{length}
use Rattle.std.specs.Prelude.{Result, Ok}
use Rattle.text_lines.specs.Bytes.{bytes}
use Rattle.text_lines.specs.Lines.{line_at}
use Rattle.text_lines.specs.declared.Line.{Line}
use Rattle.text_entries.specs.Entries.{line_entry_at}
use Rattle.dump_reader.specs.Header.{first_lines}
use Rattle.dump_reader.specs.declared.FirstLines.{FirstLines}
use Rattle.dump_reader.proofs.Places.{first-at, second_at, third_at, fourth-at, second_is, third-is}
use Rattle.dump_lines.specs.OneLine.{master_line, rate_line}
use Rattle.dump_clocks.specs.Clocks.{at_line, and_then, clock_lines}
use Rattle.dump_clocks.specs.declared.ClockLines.{ClockLines}
use Rattle.dump_clocks.specs.declared.LineRefused.{LineRefused}

-- the two lines at the places of a reader
abbrev pub clocks_at : List ℕ → FirstLines → Result ClockLines LineRefused
clocks_at t lines =
    and_then (at_line (master_line (line_entry_at (bytes "master=") t lines.one.start).value) 1) (λ master.
    and_then (at_line (rate_line master (line_entry_at (bytes "rate=") t lines.two.start).value) 2) (λ rate.
    Ok (record { master = master; rate = rate; third = lines.three.start; fourth = lines.four.start })))

module _ (t : List ℕ) {lines : FirstLines} (w : lines ≡ first_lines t) where
  at-two : lines.two.start ≡ (line_entry_at (bytes "master=") t 0).next
  unfolding line_entry_at
  at-two = second_at t w

  at-three : lines.three.start ≡ (line_entry_at (bytes "rate=") t lines.two.start).next
  unfolding line_entry_at
  at-three = third_at t w ∙ ap (λ (l : Line). l.next) (second_is t w) ∙ ap (λ (p : ℕ). (line_at t p).next) (sym (second_at t w))

  at-four : lines.four.start ≡ (line_at t lines.three.start).next
  at-four = fourth-at t w ∙ ap (λ (l : Line). l.next) (third-is t w) ∙ ap (λ (p : ℕ). (line_at t p).next) (sym (third_at t w))

  pub reads : length t ≤ 65536 → clock_lines t ≡ clocks_at t lines
  unfolding clock_lines
  reads h = rw (le-ltb 65536 (length t) h, at-four, at-three, at-two, first-at t w)
