-- Which of two fractions is the less, by their products crosswise. How far the tone of period t lies from the pitch is `far t` over t,
-- where `far t` is what lies between N and t × w. Where t × w is at most N it falls as t grows; past N it rises with t. Assumes nothing.
use mathlib.Core.Path.{◌≡◌, ap}
use Prim.Native.Nat.{ℕ, ◌+◌, ◌*◌, ◌≤◌, ◌<◌}
use native.Mathlib.Nat.{mul-le-mul_left, mul-le-mul_right, mul-lt-mul_of_pos_left, mul-lt-mul_of_pos_right, le_of_mul-le-mul_right, lt_of_mul-lt-mul_right}
use native.Mathlib.Omega.{arith}
use Rattle.pitch.specs.Pitch.{apart}

module _ (a b c t u s : ℕ) where
  -- a / t ≤ b / u ≤ c / s
  pub le-chain : 0 < u → a * u ≤ b * t → b * s ≤ c * u → a * s ≤ c * t
  le-chain pos h k = le_of_mul-le-mul_right {k = u} (omega (arith, mul-le-mul_right s h, mul-le-mul_right t k)) pos

  -- a / t < b / u ≤ c / s
  pub lt-chain : 0 < s → a * u < b * t → b * s ≤ c * u → a * s < c * t
  lt-chain pos h k = lt_of_mul-lt-mul_right u (omega (arith, mul-lt-mul_of_pos_right h pos, mul-le-mul_right t k))

module _ (N w : ℕ) where
  abbrev pub far : ℕ → ℕ
  far t = apart N (t * w)

  under : (t : ℕ) → t * w ≤ N → N ≡ far t + t * w
  under t h = omega arith

  over : (t : ℕ) → N ≤ t * w → t * w ≡ far t + N
  over t h = omega arith

  module _ (s t : ℕ) where
    -- two tones at the pitch or above it: the one of the higher period is nearer
    pub high-side : s ≤ t → t * w ≤ N → far t * s ≤ far s * t
    high-side h k = go (far t) (far s) (under t k) (under s (omega (arith, mul-le-mul_right w h)))
      where
        go : (a b : ℕ) → N ≡ a + t * w → N ≡ b + s * w → a * s ≤ b * t
        go a b p q = omega (arith, ap (λ (x : ℕ). x * s) p, ap (λ (x : ℕ). x * t) q, mul-le-mul_left N h)

    pub high-strict : 0 < N → s < t → t * w ≤ N → far t * s < far s * t
    high-strict pos h k = go (far t) (far s) (under t k) (under s (omega (arith, mul-le-mul_right w h)))
      where
        go : (a b : ℕ) → N ≡ a + t * w → N ≡ b + s * w → a * s < b * t
        go a b p q = omega (arith, ap (λ (x : ℕ). x * s) p, ap (λ (x : ℕ). x * t) q, mul-lt-mul_of_pos_left h pos)

    -- two tones at the pitch or below it: the one of the lower period is as near or nearer
    pub low-side : t ≤ s → N ≤ t * w → far t * s ≤ far s * t
    low-side h k = go (far t) (far s) (over t k) (over s (omega (arith, mul-le-mul_right w h)))
      where
        go : (a b : ℕ) → t * w ≡ a + N → s * w ≡ b + N → a * s ≤ b * t
        go a b p q = omega (arith, ap (λ (x : ℕ). x * s) p, ap (λ (x : ℕ). x * t) q, mul-le-mul_left N h)
