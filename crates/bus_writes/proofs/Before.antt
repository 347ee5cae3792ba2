-- Laws of the words before a stamp: so many of them end before it. Assumes nothing.
use Prim.Native.Nat.{ℕ, ◌+◌, ◌-◌, ◌*◌, ◌≤◌, ◌<◌}
use native.Mathlib.Nat.{le-div_iff_mul-le, mul-le-mul}
use native.Mathlib.Omega.{arith}
use Rattle.laws.proofs.Tests.{by-eq}
use Rattle.bus_writes.specs.Due.{words_before}

-- as many words as there are before a stamp end before it
pub before-ends : (start cycles stamp n : ℕ) → 0 < n → n ≤ words_before start cycles stamp → start + n * cycles < stamp
unfolding words_before
before-ends start cycles stamp n h =
    by-eq (λ (m : ℕ). n ≤ m → start + n * cycles < stamp) cycles 0 (λ _ k. absurd (omega arith))
    (λ some k.
    let span : n * cycles ≤ stamp - 1 - start = (le-div_iff_mul-le (omega arith)).0 k in
    let one : 1 * 1 ≤ n * cycles = mul-le-mul {n₁ = 1} {m₁ = 1} {n₂ = n} {m₂ = cycles} (omega arith) (omega arith) in
    omega (arith, span, one))

-- a word that ends before a stamp is one of them
pub one-before : (start cycles stamp : ℕ) → 0 < cycles → start + cycles < stamp → 0 < words_before start cycles stamp
unfolding words_before
one-before start cycles stamp h k =
    by-eq (λ (m : ℕ). 0 < m) cycles 0 (λ e. absurd (omega arith)) (λ _. (le-div_iff_mul-le {k = cycles} {x = 1} {y = stamp - 1 - start} h).1 (omega arith))
