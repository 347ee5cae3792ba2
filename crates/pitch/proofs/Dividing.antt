-- Why dividing finds what the walk finds: the law is `by-dividing`. Tones fall as periods rise; where the tone is at the pitch or above it the
-- higher period is nearer, past it the lower one. So it is one of the two around the quotient, or an end of the range. Assumes nothing.
use mathlib.Core.Bool.{cond}
use mathlib.Core.Path.{◌≡◌, refl, sym, ◌∙◌}
use Prim.Native.Nat.{ℕ, ◌+◌, ◌-◌, ◌*◌, ◌/◌, ◌%◌, ◌≤◌, ◌<◌}
use native.Mathlib.Nat.{mod-lt, mul-le-mul}
use native.Mathlib.Omega.{arith}
use lib.Dec.{leb, ltb}
use mir.Syntax.{w64}
use mir.Val.{Fits}
use Rattle.laws.proofs.Tests.{by_le, by-lt}
use Rattle.pitch.specs.Pitch.{nearest_to}
use Rattle.pitch.specs.Claims.{MasterIn, PitchIn, IsNearest, Worked}
use Rattle.pitch.proofs.Walk.{is-nearest}
use Rattle.pitch.proofs.Around.{lowest, highest, below-it, above-it}

-- as the code finds it: the quotient, cut to the range, or the next one up, by what the division leaves and what it lacks
unfoldable pub divided : ℕ → ℕ → ℕ
divided master pitch =
    let wanted = 1000 * master in
    let step = 16 * pitch in
    let below = wanted / step in
    let over = wanted % step in
    cond (ltb below 2) 2
    (cond (leb 4095 below) 4095
    (cond (leb (over * (below + 1)) ((step - over) * below)) below
    (below + 1)))

module _ (master pitch : ℕ) (M : 8 ≤ master) (P : 1 ≤ pitch) where
  divided-is : IsNearest master pitch (divided master pitch)
  unfolding divided
  divided-is =
      let below = 1000 * master / (16 * pitch) in
      let over = 1000 * master % (16 * pitch) in
      by-lt (IsNearest master pitch) below 2 (lowest master pitch M P)
      (λ h. by_le (IsNearest master pitch) 4095 below (highest master pitch M P)
      (λ k. by_le (IsNearest master pitch) (over * (below + 1)) ((16 * pitch - over) * below) (below-it master pitch M P h k) (above-it master pitch M P h k)))

  pub by-dividing : divided master pitch ≡ nearest_to master pitch
  by-dividing = is-nearest master pitch (divided master pitch) divided-is

-- an answer that dividing gives
pub as-divided : (master pitch : ℕ) → MasterIn master → PitchIn pitch → {t : ℕ} → t ≡ divided master pitch → t ≡ nearest_to master pitch
as-divided master pitch m p e = e ∙ by-dividing master pitch m.0 p.0

-- The products that the code compares fit in 64 bits.
module _ (master pitch : ℕ) (P : 1 ≤ pitch) (narrow : pitch ≤ 20000000) (most : 1000 * master / (16 * pitch) < 4095) where
  product : (x y : ℕ) → x ≤ 320000000 → y ≤ 4095 → Fits w64 (x * y)
  product x y h k = record { fits = omega (arith, mul-le-mul h k) }

  wide : 16 * pitch ≤ 320000000
  wide = omega arith

  rest : 1000 * master % (16 * pitch) ≤ 320000000
  rest = omega (arith, mod-lt (1000 * master) {m = 16 * pitch} (omega arith), wide)

  pub over-fits : Fits w64 (1000 * master % (16 * pitch) * (1000 * master / (16 * pitch) + 1))
  over-fits = product _ _ rest (omega arith)

  pub short-fits : Fits w64 ((16 * pitch - 1000 * master % (16 * pitch)) * (1000 * master / (16 * pitch)))
  short-fits = product _ _ (omega (arith, wide)) (omega arith)

pub over-least : (master pitch : ℕ) → 1 ≤ pitch → 1000 * master % (16 * pitch) ≤ 16 * pitch
over-least master pitch P = omega (arith, mod-lt (1000 * master) {m = 16 * pitch} (omega arith))

-- worked by dividing: the numbers compute
row : (master pitch t : ℕ) → 8 ≤ master → 1 ≤ pitch → divided master pitch ≡ t → nearest_to master pitch ≡ t
row master pitch t m p e = sym (by-dividing master pitch m p) ∙ e

pub worked : Worked
unfolding divided
worked =
    record {
      a4 = row 2000000 440000 284 (omega arith) (omega arith) refl;
      c4 = row 2000000 261626 478 (omega arith) (omega arith) refl;
      change = row 768000 20000000 2 (omega arith) (omega arith) refl;
      rounded = row 784000 20000000 3 (omega arith) (omega arith) refl;
      tie = row 1000000 14062500 4 (omega arith) (omega arith) refl;
      above = row 8 20000000 2 (omega arith) (omega arith) refl;
      below = row 2000000 1 4095 (omega arith) (omega arith) refl;
    }
