-- The notes, line after line: `notes_from`'s invariant and its moves. Assumes nothing.
use mathlib.Core.Path.{◌≡◌, refl, sym, ◌∙◌}
use mathlib.Core.List.{List}
use Prim.Native.Nat.{ℕ, zero, suc, ◌+◌, ◌-◌, ◌≤◌, ◌<◌}
use native.Mathlib.Omega.{arith}
use lib.ListN.{length}
use Rattle.std.specs.Prelude.{Result, Ok, Err}
use Rattle.laws.proofs.Tests.{on-lt, on-ge}
use Rattle.refusals.specs.declared.Refusal.{Refusal}
use Rattle.text_entries.specs.declared.Entry.{Entry}
use Rattle.dump_clocks.specs.Clocks.{at_line}
use Rattle.dump_clocks.specs.declared.LineRefused.{LineRefused}
use Rattle.notes_text.specs.Checked.{note_at, notes_from}
use Rattle.notes_text.proofs.Noting.{Moved, note-moves}

-- one line more: refused, or read; and the end
module _ (master : ℕ) (t : List ℕ) (notes at : ℕ) where
  module _ {note : Entry (Result ℕ Refusal)} (q : note ≡ note_at master t at) (h : at < length t) where
    one-refused : (steps : ℕ) → 0 < steps → {e : LineRefused} → at_line note.value (notes + 2) ≡ Err e → Err e ≡ notes_from master t steps notes at
    unfolding notes_from
    one-refused zero s n = absurd (omega arith)
    one-refused (suc steps) s n = rw (← q) (on-lt at (length t) _ _ _ h (rw n))

    one-read : (steps : ℕ) {p : ℕ} → at_line note.value (notes + 2) ≡ Ok p → notes_from master t steps (notes + 1) note.next ≡ notes_from master t (suc steps) notes at
    unfolding notes_from
    one-read steps n = rw (← q) (on-lt at (length t) _ _ _ h (rw n))

  at-end : (steps : ℕ) → length t ≤ at → Ok notes ≡ notes_from master t steps notes at
  unfolding notes_from
  at-end zero h = refl
  at-end (suc steps) h = on-ge at (length t) _ _ _ h refl

-- a line that was passed has a value
line-passed : (r : Result ℕ Refusal) (line : ℕ) {p : ℕ} → at_line r line ≡ Ok p → r ≡ Ok p
line-passed (Ok read) line e = cc
line-passed (Err why) line e = absurd cc

-- what is left gives the whole, and the steps that are left are enough
pub record Walking (master : ℕ) (t : List ℕ) (body notes at : ℕ) : Type 0 where
  pub steps : ℕ
  pub enough : length t ≤ at + steps
  pub few : notes ≤ at
  pub same : notes_from master t steps notes at ≡ notes_from master t (length t) 0 body

module _ {master : ℕ} {t : List ℕ} {body : ℕ} where
  pub walking_start : Walking master t body 0 body
  walking_start = record { steps = length t; enough = omega arith; few = omega arith; same = refl }

  module _ {notes at : ℕ} (m : Walking master t body notes at) where
    module _ (h : at < length t) {note : Entry (Result ℕ Refusal)} (q : note ≡ note_at master t at) {r : Result ℕ LineRefused} (l : r ≡ at_line note.value (notes + 2)) where
      pub walking-refused : {e : LineRefused} → r ≡ Err e → Err e ≡ notes_from master t (length t) 0 body
      walking-refused n = one-refused master t notes at q h m.steps (omega (arith, m.enough)) (sym l ∙ n) ∙ m.same

      moved : {p : ℕ} → r ≡ Ok p → Moved t at note.next
      moved n = rw q (note-moves master t at (rw q at (line-passed note.value (notes + 2) (sym l ∙ n))))

      on : (k : ℕ) → m.steps ≡ k → {p : ℕ} → r ≡ Ok p → Walking master t body (notes + 1) note.next
      on zero e n = absurd (omega (arith, m.enough))
      on (suc k) e n =
          let a = (moved n).after in
          record {
            steps = k;
            enough = omega (arith, m.enough, a);
            few = omega (arith, m.few, a);
            same = one-read master t notes at q h k (sym l ∙ n) ∙ (rw e at m.same);
          }

      pub walking_on : {p : ℕ} → r ≡ Ok p → Walking master t body (notes + 1) note.next
      walking_on n = on m.steps refl n

      pub walking-less : {p : ℕ} → r ≡ Ok p → length t - note.next < length t - at
      walking-less n = omega (arith, (moved n).after)

    pub walking-ends : length t ≤ at → Ok notes ≡ notes_from master t (length t) 0 body
    walking-ends h = at-end master t notes at m.steps h ∙ m.same
