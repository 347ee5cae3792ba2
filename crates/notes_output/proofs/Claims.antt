-- What is claimed of the output, shown of every text. Assumes nothing.
use mathlib.Core.List.{List}
use mathlib.Core.Path.{◌≡◌, refl, sym, ◌∙◌}
use Prim.Native.Nat.{ℕ, zero, suc, ◌+◌, ◌<◌}
use native.Mathlib.Omega.{arith}
use borrow.Author.Tests.{lt-ltb}
use lib.ListN.{length, take, length-take}
use lib.Seq.{take_all}
use Rattle.std.specs.Prelude.{Result, Ok, Err}
use Rattle.refusals.specs.declared.Refusal.{Refusal}
use Rattle.dump_clocks.specs.Clocks.{at_line, and_then}
use Rattle.dump_clocks.specs.declared.LineRefused.{LineRefused}
use Rattle.laws.proofs.Tests.{by-lt, by_order}
use Rattle.text_lines.specs.Bytes.{bytes}
use Rattle.text_entries.specs.Entries.{line_entry_at}
use Rattle.pitch.proofs.Answers.{finds}
use Rattle.dump_input.specs.Enough.{enough}
use Rattle.output_lines.specs.Lines.{refusal_text}
use Rattle.notes_text.specs.Checked.{asked_in, note_at, notes_from, period_line}
use Rattle.notes_text.proofs.Few.{asked-read}
use Rattle.notes_text.proofs.Noting.{period-read}
use Rattle.notes_text.specs.declared.Asked.{Asked}
use Rattle.notes_output.specs.Printed.{printed}
use Rattle.notes_output.specs.Claims.{place_from, place_of, Nearest, Claims}

-- each note of a walk that ends well was read
abbrev Read : ℕ → List ℕ → ℕ → Type 0
Read master t at = (period : ℕ) × ((note_at master t at).value ≡ Ok period)

one-read : (master : ℕ) (t : List ℕ) (notes at : ℕ) {all : ℕ} (more : Result ℕ LineRefused) (r : Result ℕ Refusal) → (note_at master t at).value ≡ r
    → (more ≡ Ok all → (k : ℕ) → notes + 1 + k < all → Read master t (place_from master t k (note_at master t at).next))
    → and_then (at_line r (notes + 2)) (λ _. more) ≡ Ok all → (k : ℕ) → notes + k < all → Read master t (place_from master t k at)
one-read master t notes at more (Err why) q f e k h = absurd cc
one-read master t notes at more (Ok period) q f e zero h = (period, q)
one-read master t notes at more (Ok period) q f e (suc k) h = f e k (omega arith)

each_read : (master : ℕ) (t : List ℕ) (steps notes at : ℕ) {all : ℕ} → notes_from master t steps notes at ≡ Ok all
    → (k : ℕ) → notes + k < all → Read master t (place_from master t k at)
unfolding notes_from
each_read master t zero notes at {all} = λ e k h. let z : notes ≡ all = cc in absurd (omega arith)
each_read master t (suc steps) notes at {all} =
    by-lt (λ (r : Result ℕ LineRefused). r ≡ Ok all → (k : ℕ) → notes + k < all → Read master t (place_from master t k at)) at (length t)
    (λ _ e k h. one-read master t notes at (notes_from master t steps (notes + 1) (note_at master t at).next) (note_at master t at).value refl
    (λ w i j. each_read master t steps (notes + 1) (note_at master t at).next w i j) e k h)
    (λ _ e k h. let z : notes ≡ all = cc in absurd (omega arith))

note-period : (master : ℕ) (t : List ℕ) (at : ℕ) → (note_at master t at).value ≡ period_line master (line_entry_at (bytes "pitch=") t at).value
unfolding note_at
note-period master t at = refl

module _ (t : List ℕ) where
  all-nearest : (asked : Asked) → asked_in t ≡ Ok asked → (k : ℕ) → k < asked.notes → Nearest asked t k
  all-nearest asked e k h =
      let read = asked-read t e in
      let at = place_of asked t k in
      let (period, told) = each_read asked.master t (length t) 0 asked.body {all = asked.notes} (rw read.body read.notes) k (omega arith) in
      let (pitch, asks, found) = period-read asked.master (line_entry_at (bytes "pitch=") t at).value (sym (note-period asked.master t at) ∙ told) in
      record { pitch = pitch; asks = asks; period = period; told = told; is = finds asked.master pitch period found }

  too_long : 65536 < length t → printed t ≡ refusal_text 11 0
  unfolding printed asked_in
  too_long h = rw (lt-ltb 65536 (length t) h)

-- one byte past 65,536 is known, and then nothing else counts
begins : (t : List ℕ) → printed (take enough t) ≡ printed t
begins t =
    by_order (length t) 65536 (λ h. rw (take_all enough t (omega arith)))
    (λ h. too_long (take enough t) (omega (arith, length-take enough t)) ∙ sym (too_long t h))

pub claims : (text : List ℕ) → Claims text
claims text = record { nearest = all-nearest text; beginning = begins text }
