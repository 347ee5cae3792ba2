-- A move made many times. Assumes nothing.
use mathlib.Core.Path.{◌≡◌, refl, ap, ◌∙◌}
use Prim.Native.Nat.{ℕ, zero, suc, ◌+◌}
use native.Mathlib.Nat.{add-suc, add-zero}
use Rattle.laws_loops.specs.Loop.{times}

module _ {A : Type 0} (move : A → A) where
  pub none : (x : A) → times 0 move x ≡ x
  unfolding times
  none x = refl

  pub first_then : (m n : ℕ) (x : A) → times (m + n) move x ≡ times n move (times m move x)
  unfolding times
  first_then m zero x = ap (λ (k : ℕ). times k move x) (add-zero m)
  first_then m (suc n) x = ap (λ (k : ℕ). times k move x) (add-suc m n) ∙ ap move (first_then m n x)
