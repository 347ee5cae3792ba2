-- How many notes a list has: a line has 8 bytes or more, and a list 65,536 at most. Assumes nothing.
use mathlib.Core.List.{List}
use mathlib.Core.Path.{◌≡◌, refl, subst}
use Prim.Native.Nat.{ℕ, zero, suc, ◌+◌, ◌*◌, ◌≤◌}
use native.Mathlib.Omega.{arith}
use lib.ListN.{length}
use Rattle.std.specs.Prelude.{Option, Result, Ok, Err}
use Rattle.laws.proofs.Tests.{by-lt}
use Rattle.refusals.specs.declared.Refusal.{Refusal}
use Rattle.text_lines.specs.Bytes.{bytes}
use Rattle.text_entries.specs.Entries.{line_entry_at}
use Rattle.text_entries.specs.declared.Entry.{Entry}
use Rattle.dump_clocks.specs.Clocks.{at_line, and_then}
use Rattle.dump_clocks.specs.declared.LineRefused.{LineRefused}
use Rattle.notes_text.specs.Checked.{asked_in, master_line, note_at, notes_from}
use Rattle.notes_text.specs.declared.Asked.{Asked}
use Rattle.notes_text.proofs.Noting.{note-moves, master-inside}

-- one line more, where those after it have so many
one-few : (master : ℕ) (t : List ℕ) (notes at : ℕ) {all : ℕ} (more : Result ℕ LineRefused) (r : Result ℕ Refusal) → (note_at master t at).value ≡ r
    → ((note_at master t at).next ≤ length t → more ≡ Ok all → 8 * all + (note_at master t at).next ≤ 8 * (notes + 1) + length t)
    → and_then (at_line r (notes + 2)) (λ _. more) ≡ Ok all → 8 * all + at ≤ 8 * notes + length t
one-few master t notes at more (Ok period) q f e = let m = note-moves master t at q in omega (arith, m.after, f m.inside e)
one-few master t notes at more (Err why) q f e = absurd cc

from-few : (master : ℕ) (t : List ℕ) (steps notes at : ℕ) → at ≤ length t → {all : ℕ} → notes_from master t steps notes at ≡ Ok all → 8 * all + at ≤ 8 * notes + length t
unfolding notes_from
from-few master t zero notes at h {all} = λ e. let z : notes ≡ all = cc in omega arith
from-few master t (suc steps) notes at h {all} =
    by-lt (λ (r : Result ℕ LineRefused). r ≡ Ok all → 8 * all + at ≤ 8 * notes + length t) at (length t)
    (λ _ e. one-few master t notes at (notes_from master t steps (notes + 1) (note_at master t at).next) (note_at master t at).value refl
    (λ n m. from-few master t steps (notes + 1) (note_at master t at).next n m) e)
    (λ _ e. let z : notes ≡ all = cc in omega arith)

-- what an accepted list was read as: line 1, and the walk behind it
abbrev pub line-1 : List ℕ → Entry (Option ℕ)
line-1 t = line_entry_at (bytes "master=") t 0

pub record Reading (t : List ℕ) (asked : Asked) : Type 0 where
  pub master : master_line (line-1 t).value ≡ Ok asked.master
  pub notes : notes_from asked.master t (length t) 0 (line-1 t).next ≡ Ok asked.notes
  pub body : asked.body ≡ (line-1 t).next

module _ (t : List ℕ) {asked : Asked} where
  walked : (master : ℕ) → master_line (line-1 t).value ≡ Ok master → (r : Result ℕ LineRefused) → notes_from master t (length t) 0 (line-1 t).next ≡ r
      → and_then r (λ notes. Ok (record { master = master; notes = notes; body = (line-1 t).next })) ≡ Ok asked → Reading t asked
  walked master q (Err why) w e = absurd cc
  walked master q (Ok notes) w e =
      let z : ◌≡◌ {A = Asked} (record { master = master; notes = notes; body = (line-1 t).next }) asked = cc in
      subst (λ (a : Asked). Reading t a) z (record { master = q; notes = w; body = refl })

  begun : (r : Result ℕ Refusal) → master_line (line-1 t).value ≡ r
      → and_then (at_line r 1) (λ master. and_then (notes_from master t (length t) 0 (line-1 t).next) (λ notes.
      Ok (record { master = master; notes = notes; body = (line-1 t).next }))) ≡ Ok asked → Reading t asked
  begun (Err why) q e = absurd cc
  begun (Ok master) q e = walked master q (notes_from master t (length t) 0 (line-1 t).next) refl e

  short-read : asked_in t ≡ Ok asked → (length t ≤ 65536) × Reading t asked
  unfolding asked_in
  short-read =
      by-lt (λ (r : Result Asked LineRefused). r ≡ Ok asked → (length t ≤ 65536) × Reading t asked) 65536 (length t) (λ _ e. absurd cc)
      (λ short e. (short, begun (master_line (line-1 t).value) refl e))

  pub asked-read : asked_in t ≡ Ok asked → Reading t asked
  asked-read e = (short-read e).1

  pub asked-few : asked_in t ≡ Ok asked → 8 * asked.notes ≤ 65536
  asked-few e =
      let (short, r) = short-read e in
      omega (arith, from-few asked.master t (length t) 0 (line-1 t).next (master-inside t r.master) r.notes)
