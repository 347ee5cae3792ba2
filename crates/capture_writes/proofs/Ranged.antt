-- What callers lean on: the numbers of any write's lines are in range, and an accepted write is not lower than the one before. Assumes nothing.
use mathlib.Core.Path.{◌≡◌, refl, sym, ◌∙◌, ap}
use mathlib.Core.List.{List}
use Prim.Native.Nat.{ℕ, ◌≤◌, ◌<◌}
use native.Mathlib.Omega.{arith}
use Rattle.std.specs.Prelude.{Option, Result, Ok, Err, ⊤}
use Rattle.std.proofs.lemmas.Result.{IfOk-at_ok}
use Rattle.std.proofs.lemmas.Option.{MatchOption-at_some}
use Rattle.refusals.specs.declared.Refusal.{Refusal}
use Rattle.text_lines.specs.Bytes.{bytes}
use Rattle.text_lines.specs.Lines.{line_at}
use Rattle.text_entries.specs.Entries.{line_entry_at, long_entry_at, byte_entry_at}
use Rattle.text_entries.specs.declared.Entry.{Entry}
use Rattle.text_entries.proofs.Ranges.{long-held, byte-held, long-next, line-next, byte_next}
use Rattle.text_stamps.specs.declared.Misread.{Misread}
use Rattle.dump_clocks.specs.declared.LineRefused.{LineRefused}
use Rattle.dump_clocks.proofs.Paced.{numbered}
use Rattle.capture_lines.specs.OneLine.{stamp_line, port_line, value_line}
use Rattle.capture_lines.proofs.Ranges.{stamp-read, port-range, value-read}
use Rattle.capture_writes.specs.Writes.{WriteTold, told_write, lines_at, write_at}
use Rattle.capture_writes.specs.declared.WriteLines.{WriteLines}
use Rattle.capture_writes.proofs.Steps.{by-line}

-- of every text and place, a refused one too
pub record Ranged (w : WriteTold) : Type 0 where
  pub no : w.no < 256
  pub line : w.line ≤ 2
  pub stamp : w.write.stamp ≤ 18446744073709551615
  pub port : w.write.port ≤ 3
  pub value : w.write.value ≤ 255

-- what is known of an accepted write
pub record Taken (t : List ℕ) (before at : ℕ) (w : WriteLines) : Type 0 where
  pub same : lines_at t 0 at ≡ Ok w
  pub order : before ≤ w.write.stamp
  pub on : w.next ≡ (line_at t (line_at t (line_at t at).next).next).next

module _ (t : List ℕ) (before at : ℕ) where
  abbrev one : Entry (Result ℕ Misread)
  one = long_entry_at (bytes "at=") t at

  abbrev two : Entry (Option ℕ)
  two = line_entry_at (bytes "port=") t one.next

  abbrev three : Entry (Option ℕ)
  three = byte_entry_at (bytes "value=") t two.next

  bad-ranged : (line : ℕ) → line ≤ 2 → (why : Refusal) → Ranged (told_write (Err (record { why = why; line = line })))
  bad-ranged line l why = record { no = (numbered why).1; line = l; stamp = omega arith; port = omega arith; value = omega arith }

  pub ranged-at : Ranged (write_at t before at)
  unfolding write_at lines_at
  ranged-at =
      let P = λ (r : Result WriteLines LineRefused). Ranged (told_write r) in
      by-line P (stamp_line before one.value) 0
      (λ stamp s. by-line P (port_line two.value) 1
      (λ port p. by-line P (value_line three.value) 2
      (λ value v.
      record {
        no = omega arith;
        line = omega arith;
        stamp = IfOk-at_ok (λ (n : ℕ). n ≤ 18446744073709551615) (stamp-read before one.value stamp s).0 (long-held _ t at);
        port = port-range two.value port p;
        value = MatchOption-at_some ⊤ (λ (n : ℕ). n ≤ 255) value (value-read three.value value v) (byte-held _ t two.next);
      })
      (bad-ranged 2 (omega arith))) (bad-ranged 1 (omega arith))) (bad-ranged 0 (omega arith))

  pub taken : (w : WriteLines) → lines_at t before at ≡ Ok w → Taken t before at w
  unfolding lines_at
  taken w =
      let P = λ (r : Result WriteLines LineRefused). r ≡ Ok w → Taken t before at w in
      by-line P (stamp_line before one.value) 0
      (λ stamp s. by-line P (port_line two.value) 1
      (λ port p. by-line P (value_line three.value) 2
      (λ value v e.
      let read = stamp-read before one.value stamp s in
      let is : w ≡ record { write = record { stamp = stamp; port = port; value = value }; next = three.next } = cc in
      rw is
      (record {
        same = rw (read.2, p, v) refl;
        order = read.1;
        on = byte_next _ t two.next ∙ ap (λ (p : ℕ). (line_at t p).next) (line-next _ t one.next ∙ ap (λ (p : ℕ). (line_at t p).next) (long-next _ t at));
      }))
      (λ why e. cc)) (λ why e. cc)) (λ why e. cc)

-- a write in numbers
pub accepted-at : (t : List ℕ) (before at : ℕ) (lines : WriteLines) → lines_at t before at ≡ Ok lines → write_at t before at ≡ told_write (Ok lines)
unfolding write_at
accepted-at t before at lines e = ap told_write e

pub refused-at : (t : List ℕ) (before at : ℕ) (refused : LineRefused) → lines_at t before at ≡ Err refused → write_at t before at ≡ told_write (Err refused)
unfolding write_at
refused-at t before at refused e = ap told_write e

-- a refusal names one of the three lines
pub refused-line : (t : List ℕ) (before at : ℕ) (refused : LineRefused) → lines_at t before at ≡ Err refused → refused.line ≤ 2
refused-line t before at refused e = rw (refused-at t before at refused e) at (ranged-at t before at).line

-- number 0 is an accepted write
pub told-ok : (r : Result WriteLines LineRefused) → (told_write r).no ≡ 0 → (w : WriteLines) × (r ≡ Ok w)
told-ok (Ok w) e = (w, refl)
told-ok (Err refused) e = absurd (omega (arith, numbered refused.why))

module _ (t : List ℕ) (before at : ℕ) (e : (write_at t before at).no ≡ 0) where
  abbrev found : (w : WriteLines) × (lines_at t before at ≡ Ok w)
  unfolding write_at
  found = told-ok (lines_at t before at) e

  known : Taken t before at found.0
  known = taken t before at found.0 found.1

  -- an accepted write is the same after any stamp, and not lower than it
  pub same_after : write_at t before at ≡ write_at t 0 at
  unfolding write_at
  same_after = ap told_write (found.1 ∙ sym known.same)

  told_as : write_at t before at ≡ told_write (Ok found.0)
  told_as = accepted-at t before at found.0 found.1

  pub not_lower : before ≤ (write_at t before at).write.stamp
  not_lower = rw told_as known.order

  -- three lines on
  pub three-on : (write_at t before at).next ≡ (line_at t (line_at t (line_at t at).next).next).next
  three-on = rw told_as known.on
