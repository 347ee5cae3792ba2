-- Words that end before the next write's stamp: nothing is due before any of them. Assumes nothing.
use mathlib.Core.List.{List}
use mathlib.Core.Path.{◌≡◌, refl, sym, ap, ◌∙◌}
use Prim.Native.Nat.{ℕ, zero, suc, ◌+◌, ◌*◌, ◌≤◌, ◌<◌, min}
use native.Mathlib.Nat.{le_trans, le-min, min-le_left, min-le_right}
use native.Mathlib.Omega.{arith}
use Rattle.laws.proofs.Tests.{on-ne}
use Rattle.capture_writes.specs.Writes.{write_at, writes_from}
use Rattle.capture_course.specs.Claims.{NoneBy}
use Rattle.bus_writes.specs.Due.{words_before}
use Rattle.bus_writes.proofs.Before.{before-ends, one-before}
use Rattle.capture_passing.specs.Due.{free_words}

module _ (text : List ℕ) (at start cycles words : ℕ) where
  abbrev free : ℕ → ℕ
  free writes = free_words text writes at start cycles words

  abbrev before : ℕ
  before = words_before start cycles (write_at text 0 at).write.stamp

  free_all : free 0 ≡ words
  unfolding free_words
  free_all = refl

  free-next : (left : ℕ) → free (suc left) ≡ min before words
  unfolding free_words
  free-next left = sym (on-ne (suc left) 0 (min before words) words (min before words) (λ e. omega arith) refl)

  pub free-few : (writes : ℕ) → free writes ≤ words
  free-few zero = omega (arith, free_all)
  free-few (suc left) = rw (free-next left) (min-le_right before words)

  -- none of the free words has a write due by its end
  pub free-none : (writes n : ℕ) → 0 < n → n ≤ free writes → NoneBy (start + n * cycles) (writes_from text writes at)
  unfolding writes_from
  free-none zero n h k = tt
  free-none (suc left) n h k =
      let few : n ≤ min before words = rw (free-next left) at k in
      before-ends start cycles (write_at text 0 at).write.stamp n h (le_trans few (min-le_left before words))

  -- where no write is due by the next word's end, that word is free
  pub some-free : (writes : ℕ) → 0 < cycles → 0 < words → NoneBy (start + cycles) (writes_from text writes at) → 0 < free writes
  unfolding writes_from
  some-free zero h k l = omega (arith, free_all)
  some-free (suc left) h k l = rw (free-next left) (le-min (one-before start cycles (write_at text 0 at).write.stamp h l) k)

  -- the code's answers
  pub all-free : {writes : ℕ} → writes ≡ 0 → words ≡ free writes
  all-free e = rw e (sym free_all)

  next-free : (writes : ℕ) → (writes ≡ 0 → ⊥) → free writes ≡ min before words
  next-free zero n = absurd (n refl)
  next-free (suc left) n = free-next left

  -- `free_words` takes the fewer of the words and of those before the next write's stamp
  pub fewer-free : {writes stamp b r : ℕ} → (writes ≡ 0 → ⊥) → stamp ≡ (write_at text 0 at).write.stamp → b ≡ words_before start cycles stamp
      → r ≡ min b words → r ≡ free writes
  fewer-free {writes} n is e q = q ∙ ap (λ (b : ℕ). min b words) (e ∙ ap (words_before start cycles) is) ∙ sym (next-free writes n)
