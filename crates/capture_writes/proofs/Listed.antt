-- What callers lean on: the writes of a text as a list, and the place of each. Assumes nothing.
use mathlib.Core.Path.{◌≡◌, refl, ◌∙◌, ap}
use mathlib.Core.List.{List}
use Prim.Native.Nat.{ℕ, zero, suc, ◌+◌, ◌<◌}
use native.Mathlib.Omega.{arith}
use lib.ListN.{length, get_or, drop}
use Rattle.bus_writes.specs.declared.BusWrite.{BusWrite}
use Rattle.capture_writes.specs.Writes.{write_at, writes_from, place_from}

module _ (t : List ℕ) where
  -- a write on, then k writes on
  pub place-on : (k at : ℕ) → place_from t k (write_at t 0 at).next ≡ place_from t (suc k) at
  place-on zero at = refl
  place-on (suc k) at = ap (λ (p : ℕ). (write_at t 0 p).next) (place-on k at)

  pub how-many : (n at : ℕ) → length (writes_from t n at) ≡ n
  unfolding writes_from
  how-many zero at = refl
  how-many (suc n) at = ap suc (how-many n (write_at t 0 at).next)

  -- the k-th of the list stands k writes on
  pub kth : (n k at : ℕ) (d : BusWrite) → k < n → get_or (writes_from t n at) k d ≡ (write_at t 0 (place_from t k at)).write
  unfolding writes_from
  kth zero k at d h = absurd (omega arith)
  kth (suc n) zero at d h = refl
  kth (suc n) (suc k) at d h =
      kth n k (write_at t 0 at).next d (omega arith) ∙ ap (λ (p : ℕ). (write_at t 0 p).write) (place-on k at)

  -- what is left of the list after k stands k writes on
  pub rest : (n k at : ℕ) → drop k (writes_from t (k + n) at) ≡ writes_from t n (place_from t k at)
  unfolding writes_from
  rest n zero at = let z : 0 + n ≡ n = omega arith in rw z
  rest n (suc k) at =
      let z : suc k + n ≡ suc (k + n) = omega arith in
      rw (z, ← place-on k at) (rest n k (write_at t 0 at).next)
