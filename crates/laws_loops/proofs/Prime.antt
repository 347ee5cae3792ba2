-- 131,071 is prime. Assumes nothing.
use mathlib.Core.Bool.{Bool, not}
use mathlib.Core.Path.{◌≡◌, sym, ap, ◌∙◌}
use Prim.Native.Nat.{ℕ, zero, suc, ◌+◌, ◌-◌, ◌*◌, ◌/◌, ◌%◌, ◌≤◌, ◌<◌}
use native.Mathlib.Nat.{add-zero, div-add-mod', lt_of_not-le, mul_comm, mul-le-mul, mul-mod_left, zero-mul}
use native.Mathlib.Omega.{arith}
use lib.Dec.{T, eqb, T_not}
use lib.Ieee.Fits.{eq→eqb}
use Rattle.laws.proofs.Table.{all, each}
use Rattle.laws.proofs.Tests.{by_order}

abbrev leaves_some : ℕ → Bool
leaves_some n = not (eqb (131071 % (n + 2)) 0)

-- no number from 2 to 363 divides it
none-small : T (all 362 leaves_some)
none-small = tt

small-no : (d : ℕ) → 1 < d → d < 364 → 131071 % d ≡ 0 → ⊥
small-no d a b e =
    let same : d - 2 + 2 ≡ d = omega arith in
    T_not (eqb (131071 % (d - 2 + 2)) 0) (each 362 leaves_some none-small (d - 2) (omega arith)) (eq→eqb (ap (λ (x : ℕ). 131071 % x) same ∙ e))

-- and of two factors one is below 364
pub prime : (k : ℕ) → 1 < k → k < 131071 → 131071 % k ≡ 0 → ⊥
prime k a b e =
    by_order 364 k
    (λ g. small-no q (other q k whole b) (below q k whole g) (ap (λ (x : ℕ). x % q) (sym whole ∙ mul_comm q k) ∙ mul-mod_left k q))
    (λ l. small-no k a l e)
  where
    q : ℕ
    q = 131071 / k

    whole : q * k ≡ 131071
    whole = sym (add-zero (q * k)) ∙ ap (λ (x : ℕ). q * k + x) (sym e) ∙ div-add-mod' 131071 k

    other : (x y : ℕ) → x * y ≡ 131071 → y < 131071 → 1 < x
    other zero y p l = let z : ◌≡◌ {A = ℕ} 0 131071 = sym (zero-mul y) ∙ p in omega arith
    other (suc zero) y p l = omega arith
    other (suc (suc x)) y p l = omega arith

    below : (x y : ℕ) → x * y ≡ 131071 → 364 ≤ y → x < 364
    below x y p g = lt_of_not-le (λ (l : 364 ≤ x). let w : 364 * 364 ≤ x * y = mul-le-mul l g in omega arith)
