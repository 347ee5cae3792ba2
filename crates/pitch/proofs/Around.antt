-- The nearest period is one of the two around the quotient, or an end of the range: tones fall as periods rise. Assumes nothing.
use mathlib.Core.Path.{◌≡◌, sym}
use Prim.Native.Nat.{ℕ, ◌+◌, ◌-◌, ◌*◌, ◌/◌, ◌%◌, ◌≤◌, ◌<◌}
use native.Mathlib.Nat.{div-add-mod', div-mul-le_self, lt-div-mul-add, mod-lt, mul-le-mul_right}
use native.Mathlib.Omega.{arith}
use Rattle.laws.proofs.Tests.{by_order}
use Rattle.pitch.specs.Pitch.{off}
use Rattle.pitch.specs.Claims.{Playable, IsNearest}
use Rattle.pitch.proofs.Fractions.{far, le-chain, lt-chain, high-side, high-strict, low-side}

unlike : {x y : ℕ} → x < y → x ≡ y → ⊥
unlike k e = omega arith

less : {x y : ℕ} → x < y → x ≤ y
less k = omega arith

next : {s t : ℕ} → s < t → s + 1 ≤ t
next k = omega arith

module _ (master pitch : ℕ) (M : 8 ≤ master) (P : 1 ≤ pitch) where
  abbrev wanted : ℕ
  wanted = 1000 * master

  abbrev step : ℕ
  step = 16 * pitch

  some : 0 < wanted
  some = omega arith

  a-step : 0 < step
  a-step = omega arith

  abbrev below : ℕ
  below = wanted / step

  abbrev above : ℕ
  above = below + 1

  -- the quotient's tone is at the pitch or above it, the next one's below it
  at_most : below * step ≤ wanted
  at_most = div-mul-le_self wanted step

  more : wanted < above * step
  more = omega (arith, lt-div-mul-add {a = wanted} a-step)

  -- every tone of the range is at the pitch or below it
  pub lowest : below < 2 → IsNearest master pitch 2
  unfolding off
  lowest h =
      record {
        playable = (omega arith, omega arith);
        none-nearer = λ s p. low-side wanted step s 2 p.0 past;
        smaller = λ s p e. p.0;
      }
    where
      past : wanted ≤ 2 * step
      past = omega (arith, more, mul-le-mul_right step (next h))

  -- every tone of the range is at the pitch or above it
  pub highest : 4095 ≤ below → IsNearest master pitch 4095
  unfolding off
  highest h =
      record {
        playable = (omega arith, omega arith);
        none-nearer = λ s p. high-side wanted step s 4095 p.1 reach;
        smaller = λ s p e. by_order 4095 s (λ k. k) (λ k. absurd (unlike (high-strict wanted step s 4095 some k reach) e));
      }
    where
      reach : 4095 * step ≤ wanted
      reach = omega (arith, at_most, mul-le-mul_right step h)

  module _ (least : 2 ≤ below) (most : below < 4095) where
    low : wanted ≤ above * step
    low = less more

    -- the tone above the pitch is as near or nearer
    keeps : far wanted step below * above ≤ far wanted step above * below → IsNearest master pitch below
    unfolding off
    keeps h =
        record {
          playable = (least, less most);
          none-nearer = λ s p.
              by_order s below (λ k. high-side wanted step s below k at_most)
              (λ k. le-chain (far wanted step below) (far wanted step above) (far wanted step s) below above s (omega arith) h (low-side wanted step s above (next k) low));
          smaller = λ s p e. by_order below s (λ k. k) (λ k. absurd (unlike (high-strict wanted step s below some k at_most) e));
        }

    -- the tone below it is nearer
    moves : far wanted step above * below < far wanted step below * above → IsNearest master pitch above
    unfolding off
    moves h =
        record {
          playable = (omega arith, omega arith);
          none-nearer = λ s p. by_order s below (λ k. less (strict s p k)) (λ k. low-side wanted step s above (next k) low);
          smaller = λ s p e. by_order s below (λ k. absurd (unlike (strict s p k) e)) (λ k. next k);
        }
      where
        strict : (s : ℕ) → Playable s → s ≤ below → far wanted step above * s < far wanted step s * above
        strict s p k =
            lt-chain (far wanted step above) (far wanted step below) (far wanted step s) above below s (omega arith) h (high-side wanted step s below k at_most)

    -- what the division leaves, and what it lacks to the next
    left : wanted ≡ below * step + wanted % step
    left = sym (div-add-mod' wanted step)

    far-below : far wanted step below ≡ wanted % step
    far-below = omega (arith, left)

    far-above : far wanted step above ≡ step - wanted % step
    far-above = omega (arith, left, mod-lt wanted a-step)

    pub below-it : wanted % step * above ≤ (step - wanted % step) * below → IsNearest master pitch below
    below-it h = keeps (rw (far-below, far-above) h)

    pub above-it : (step - wanted % step) * below < wanted % step * above → IsNearest master pitch above
    above-it h = moves (rw (far-below, far-above) h)
