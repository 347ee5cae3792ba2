-- The two lists, pair after pair: what is left gives the whole. Assumes nothing.
use mathlib.Core.Bool.{Bool, true, false, not}
use mathlib.Core.List.{List}
use mathlib.Core.Path.{◌≡◌, refl, sym, ◌∙◌}
use Prim.Native.Nat.{ℕ, ◌+◌, ◌≤◌, ◌<◌}
use native.Mathlib.Numerals.{add-one}
use native.Mathlib.Omega.{arith}
use borrow.Author.Tests.{eq-eqb, ne_eqb}
use lib.ListN.{length, drop, get_or, drop_of_length-le}
use lib.Seq.{drop-cons}
use Rattle.laws.specs.All.{every}
use Rattle.pitch.specs.Pitch.{pitch_in, nearest_to, each_nearest}
use Rattle.pitch.proofs.Ranges.{was-false, was-true}

pub record Pitches (s : List ℕ) (i : ℕ) : Type 0 where
  pub same : every pitch_in (drop i s) ≡ every pitch_in s

pub pitches-start : {s : List ℕ} → Pitches s 0
pitches-start = record { same = refl }

module _ {s : List ℕ} {i : ℕ} {r : Bool} (m : Pitches s i) (h : i < length s) (q : r ≡ pitch_in (get_or s i 0)) where
  pub pitches-off : not r ≡ true → false ≡ every pitch_in s
  pitches-off n = rw (drop-cons s i 0 h, was-false r q n) at m.same

  pub pitches-on : not r ≡ false → Pitches s (i + 1)
  pitches-on n = record { same = rw add-one (rw (drop-cons s i 0 h, was-true r q n) at m.same) }

pub pitches-end : {s : List ℕ} {i : ℕ} → Pitches s i → length s ≤ i → true ≡ every pitch_in s
pitches-end {s} {i} m h = rw (drop_of_length-le s {i = i} h) at m.same

pub record Pairs (master : ℕ) (pitches periods : List ℕ) (i : ℕ) : Type 0 where
  pub same : each_nearest master (drop i pitches) (drop i periods) ≡ each_nearest master pitches periods

pub pairs_start : {master : ℕ} {pitches periods : List ℕ} → Pairs master pitches periods 0
pairs_start = record { same = refl }

module _ {master : ℕ} {pitches periods : List ℕ} {i t : ℕ} (m : Pairs master pitches periods i) (h : i < length pitches) (l : length pitches ≡ length periods) (q : t ≡ nearest_to master (get_or pitches i 0)) where
  k : i < length periods
  k = omega arith

  pub pairs-off : (get_or periods i 0 ≡ t → ⊥) → false ≡ each_nearest master pitches periods
  unfolding each_nearest
  pairs-off n = rw (drop-cons pitches i 0 h, drop-cons periods i 0 k, ne_eqb (get_or periods i 0) (nearest_to master (get_or pitches i 0)) (λ e. n (e ∙ sym q))) at m.same

  pub pairs-on : get_or periods i 0 ≡ t → Pairs master pitches periods (i + 1)
  unfolding each_nearest
  pairs-on e = record { same = rw add-one (rw (drop-cons pitches i 0 h, drop-cons periods i 0 k, eq-eqb (get_or periods i 0) (nearest_to master (get_or pitches i 0)) (e ∙ q)) at m.same) }

pub pairs_end : {master : ℕ} {pitches periods : List ℕ} {i : ℕ} → Pairs master pitches periods i → length pitches ≤ i → true ≡ each_nearest master pitches periods
unfolding each_nearest
pairs_end {master} {pitches} {periods} {i} m h = rw (drop_of_length-le pitches {i = i} h) at m.same
