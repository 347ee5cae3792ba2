-- 2 ^ 17 - 1 steps return to every register of 17 bits. Assumes nothing.
use mathlib.Core.List.{List}
use mathlib.Core.Path.{◌≡◌, refl, sym, ap, ap₂, ◌∙◌}
use Prim.Native.Nat.{ℕ, zero, suc, ◌+◌, ◌-◌, ◌/◌, ◌%◌, ◌^◌, ◌<◌}
use native.Mathlib.Nat.{pow-suc}
use native.Mathlib.Omega.{arith}
use lib.Bits.{bit_xor, xor_zero_r}
use lib.Pow.{pow_pos}
use Rattle.laws.proofs.Tests.{by-eq}
use Rattle.noise.specs.Noise.{register_step}
use Rattle.noise.proofs.Hissing.{register-le, register-some}
use Rattle.laws_loops.specs.Loop.{steps, times}
use Rattle.laws_loops.proofs.Times.{first_then, none}
use Rattle.laws_loops.proofs.Linear.{Linear, fold, fold-linear, map_by, map_by-linear, images, by-images, when}

-- a step is linear
step-fold : (s : ℕ) → register_step s ≡ fold (λ x. x) 0x12000 s
unfolding register_step
step-fold s =
    by-eq (λ (x : ℕ). x ≡ bit_xor (s / 2) (when (s % 2) 0x12000)) (s % 2) 1 (λ e. rw e)
    (λ e. let z : s % 2 ≡ 0 = omega arith in rw (z, xor_zero_r (s / 2)))

step-linear : Linear register_step
unfolding register_step
step-linear = (
  refl,
  λ a b.
      step-fold (bit_xor a b) ∙ (fold-linear (λ x. x) 0x12000 (refl, λ a b. refl)).1 a b ∙ ap₂ bit_xor (sym (step-fold a)) (sym (step-fold b)),
)

-- the images of the 17 bits under 2 ^ k - 1 steps: a step, and then 2 ^ k - 1 twice, are 2 ^ (k + 1) - 1
twice_and_one : List ℕ → ℕ → ℕ
twice_and_one p s = map_by p (map_by p (register_step s))

images_after : ℕ → List ℕ
images_after zero = images 17 (λ s. s)
images_after (suc k) = images 17 (twice_and_one (images_after k))

all_back : images_after 17 ≡ images 17 (λ s. s)
unfolding images_after twice_and_one images map_by register_step
all_back = refl

-- steps
pub steps-lt : (n s : ℕ) → s < 2 ^ 17 → steps n s < 2 ^ 17
unfolding times
steps-lt zero s h = h
steps-lt (suc n) s h = let b = steps-lt n s h in omega (arith, register-le (steps n s) (omega arith))

pub steps-some : (n s : ℕ) → s < 2 ^ 17 → 0 < s → 0 < steps n s
unfolding times
steps-some zero s h some = some
steps-some (suc n) s h some = let b = steps-lt n s h in register-some (steps n s) (omega arith) (steps-some n s h some)

pub steps-one : (s : ℕ) → steps 1 s ≡ register_step s
unfolding times
steps-one s = refl

count : (k : ℕ) → 2 ^ suc k - 1 ≡ 1 + ((2 ^ k - 1) + (2 ^ k - 1))
count k = let e = pow-suc 2 k in let p = pow_pos k in omega arith

twice-linear : (p : List ℕ) → Linear (twice_and_one p)
unfolding twice_and_one
twice-linear p =
    let l = map_by-linear p in (
      ap (map_by p) (ap (map_by p) step-linear.0 ∙ l.0) ∙ l.0,
      λ a b.
          ap (λ (x : ℕ). map_by p (map_by p x)) (step-linear.1 a b)
          ∙ ap (map_by p) (l.1 (register_step a) (register_step b))
          ∙ l.1 (map_by p (register_step a)) (map_by p (register_step b)),
    )

by-twice : (p : List ℕ) (s : ℕ) → s < 2 ^ 17 → map_by p (map_by p (register_step s)) ≡ map_by (images 17 (twice_and_one p)) s
unfolding twice_and_one
by-twice p s h = by-images 17 (twice_and_one p) (twice-linear p) s h

by_bits : (k s : ℕ) → s < 2 ^ 17 → steps (2 ^ k - 1) s ≡ map_by (images_after k) s
unfolding images_after
by_bits zero s h = none register_step s ∙ by-images 17 (λ x. x) (refl, λ a b. refl) s h
by_bits (suc k) s h =
    let n = 2 ^ k - 1 in
    let p = images_after k in
    ap (λ (m : ℕ). steps m s) (count k)
    ∙ first_then register_step 1 (n + n) s
    ∙ first_then register_step n n (steps 1 s)
    ∙ by_bits k (steps n (steps 1 s)) (steps-lt n (steps 1 s) (steps-lt 1 s h))
    ∙ ap (map_by p) (by_bits k (steps 1 s) (steps-lt 1 s h))
    ∙ ap (λ (x : ℕ). map_by p (map_by p x)) (steps-one s)
    ∙ by-twice p s h

pub returns : (s : ℕ) → s < 2 ^ 17 → steps 131071 s ≡ s
returns s h = by_bits 17 s h ∙ ap (λ (p : List ℕ). map_by p s) all_back ∙ sym (by-images 17 (λ x. x) (refl, λ a b. refl) s h)
