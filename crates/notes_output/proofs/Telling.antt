-- The periods' lines, note after note: `put_periods`' invariant and its moves. Assumes nothing.
use mathlib.Core.Path.{◌≡◌, refl, sym, ap, ◌∙◌}
use mathlib.Core.List.{List, [], ◌++◌, append_assoc, append-nil}
use Prim.Native.Nat.{ℕ, zero, suc, ◌+◌, ◌-◌, ◌*◌, ◌≤◌, ◌<◌}
use native.Mathlib.Omega.{arith}
use lib.ListN.{length, length-append}
use Rattle.std.specs.Result.{result_unwrap_or}
use Rattle.std.specs.Prelude.{Option, Some, None, Result, Ok, Err}
use Rattle.refusals.specs.declared.Refusal.{Refusal}
use Rattle.text_entries.specs.declared.Entry.{Entry}
use Rattle.laws.proofs.Tests.{by_cond}
use Rattle.text_lines.specs.Bytes.{bytes}
use Rattle.text_entries.specs.Entries.{line_entry_at}
use Rattle.text_put.specs.Text.{number_text, overlaid, laid, place_after}
use Rattle.text_put.proofs.Following.{then, number-few}
use Rattle.text_put.proofs.Laying.{laid-over, place-over, over_none, over-over, over-long}
use Rattle.pitch.specs.Pitch.{master_in, pitch_in, nearest_period}
use Rattle.pitch.proofs.Walk.{nearest-is}
use Rattle.notes_text.specs.Checked.{note_at, period_line}
use Rattle.notes_output.specs.Printed.{lines_from, period_of, period_text}

-- the code's period of a note is the page's
pub unwrapped : (r : Result ℕ Refusal) → result_unwrap_or r 0 ≡ period_of r
unwrapped (Ok period) = refl
unwrapped (Err why) = refl

-- a period has four digits at most, so its line has twelve bytes at most
found-small : (master pitch : ℕ) → period_of (nearest_period master pitch) ≤ 4095
unfolding nearest_period
found-small master pitch =
    by_cond (λ (f : Result ℕ Refusal). period_of f ≤ 4095) (master_in master) _ _
    (λ _. by_cond (λ (f : Result ℕ Refusal). period_of f ≤ 4095) (pitch_in pitch) _ _ (λ _. (nearest-is master pitch).playable.1) (λ _. omega arith))
    (λ _. omega arith)

line-small : (master : ℕ) (value : Option ℕ) → period_of (period_line master value) ≤ 4095
unfolding period_line
line-small master None = omega arith
line-small master (Some pitch) = found-small master pitch

note-small : (master : ℕ) (t : List ℕ) (at : ℕ) → period_of (note_at master t at).value ≤ 4095
unfolding note_at
note-small master t at = line-small master (line_entry_at (bytes "pitch=") t at).value

line-few : (period : ℕ) → period ≤ 4095 → length (period_text period) ≤ 12
line-few period h = omega (arith, length-append (bytes "period=") (number_text period 10), number-few 3 period 10 (omega arith))

-- its two parts, one after the other
pub period-put : (out : List ℕ) (at period : ℕ) → at + length (period_text period) ≤ length out → {p : ℕ} {out₁ : List ℕ}
    → (p ≡ place_after out at (bytes "period=")) × (out₁ ≡ laid out at (bytes "period=")) → {r : ℕ} {after : List ℕ}
    → (r ≡ place_after out₁ p (number_text period 10)) × (after ≡ laid out₁ p (number_text period 10))
    → (r ≡ at + length (period_text period)) × (after ≡ overlaid out at (period_text period))
period-put out at period h a b =
    let k = then out at (bytes "period=") (number_text period 10) h (record { is = a.0; all = a.1 }) b.0 b.1 in
    (k.is ∙ place-over out at (period_text period) h, k.all ∙ laid-over out at (period_text period) h)

-- one note more
one_more : (master : ℕ) (t : List ℕ) (left at : ℕ) → 0 < left → {note : Entry (Result ℕ Refusal)} → note ≡ note_at master t at
    → lines_from master t left at ≡ period_text (period_of note.value) ++ lines_from master t (left - 1) note.next
unfolding lines_from
one_more master t zero at h q = absurd (omega arith)
one_more master t (suc left) at h q = let z : suc left - 1 ≡ left = omega arith in rw (z, q)

no_more : (master : ℕ) (t : List ℕ) (left at : ℕ) → left ≤ 0 → lines_from master t left at ≡ []
unfolding lines_from
no_more master t zero at h = refl
no_more master t (suc left) at h = absurd (omega arith)

-- these lines are done, those of the notes that are left lead to the whole, and there is room for all
pub record Telling (master : ℕ) (t : List ℕ) (notes body : ℕ) (out₀ : List ℕ) (left at : ℕ) (out : List ℕ) (place : ℕ) : Type 0 where
  pub done : List ℕ
  pub same : done ++ lines_from master t left at ≡ lines_from master t notes body
  pub few : length done + 12 * left ≤ 12 * notes
  pub room : 12 * notes ≤ length out₀
  pub is : place ≡ 0 + length done
  pub all : out ≡ overlaid out₀ 0 done

module _ {master : ℕ} {t : List ℕ} {notes body : ℕ} {out₀ : List ℕ} where
  pub telling-start : {left : ℕ} → left ≡ notes → 12 * notes ≤ length out₀ → Telling master t notes body out₀ left body out₀ 0
  telling-start e h = record { done = []; same = rw e; few = omega arith; room = h; is = omega arith; all = over_none out₀ 0 }

  module _ {left at : ℕ} {out : List ℕ} {place : ℕ} (m : Telling master t notes body out₀ left at out place) where
    -- the buffer keeps its length
    pub telling-long : length out ≡ length out₀
    telling-long = rw m.all (over-long out₀ 0 m.done (omega (arith, m.few, m.room)))

    module _ (h : 0 < left) {note : Entry (Result ℕ Refusal)} (q : note ≡ note_at master t at) where
      abbrev line : List ℕ
      line = period_text (period_of note.value)

      short : length (period_text (period_of note.value)) ≤ 12
      short = rw q (line-few _ (note-small master t at))

      pub telling-room : place + length (period_text (period_of note.value)) ≤ length out
      telling-room = omega (arith, m.few, m.room, m.is, short, telling-long)

      pub telling-on : {rest : ℕ} → rest ≡ left - 1 → {r : ℕ} {after : List ℕ} → (r ≡ place + length (period_text (period_of note.value))) × (after ≡ overlaid out place (period_text (period_of note.value)))
          → Telling master t notes body out₀ rest note.next after r
      telling-on f p =
          let long = length-append m.done line in
          record {
            done = m.done ++ line;
            same = rw f (append_assoc m.done line (lines_from master t (left - 1) note.next)
                ∙ ap (λ (l : List ℕ). m.done ++ l) (sym (one_more master t left at h q)) ∙ m.same);
            few = omega (arith, long, short, m.few, f);
            room = m.room;
            is = omega (arith, p.0, long, m.is);
            all = p.1 ∙ rw (m.all, m.is) (over-over out₀ 0 m.done line (omega (arith, m.few, m.room)));
          }

    module _ (h : left ≤ 0) where
      whole : m.done ≡ lines_from master t notes body
      whole = sym (append-nil m.done) ∙ (rw (no_more master t left at h) at m.same)

      pub telling-ends : (place ≡ length (lines_from master t notes body)) × (out ≡ overlaid out₀ 0 (lines_from master t notes body))
      telling-ends = (rw (← whole) (omega (arith, m.is)), rw (← whole) m.all)
