-- A mask goes through xor and through or, digit by digit. Assumes nothing.
use mathlib.Core.Path.{◌≡◌, refl, sym, ap, ap₂, ◌∙◌}
use Prim.Native.Nat.{ℕ, zero, suc, ◌+◌, ◌*◌, ◌/◌, ◌%◌, ◌<◌, min, max}
use native.Mathlib.Nat.{lt_of_le_of_lt, min-le_left}
use native.Mathlib.Omega.{arith}
use lib.Arith.{bin_ind, digits_div, digits_mod}
use lib.Bits.{bit_and, bit_or, bit_xor, differ, and_step, or_step, xor_step}
use lib.Dec.{lit<}

pub bit-lt : (n : ℕ) → n % 2 < 2
bit-lt n = omega arith

differ-lt : (x y : ℕ) → x < 2 → y < 2 → differ x y < 2
differ-lt zero y h k = k
differ-lt (suc x) zero h k = h
differ-lt (suc zero) (suc zero) h k = lit< tt
differ-lt (suc zero) (suc (suc y)) h k = omega arith
differ-lt (suc (suc x)) (suc y) h k = omega arith

max-lt : (x y : ℕ) → x < 2 → y < 2 → max x y < 2
max-lt zero zero h k = lit< tt
max-lt zero (suc zero) h k = lit< tt
max-lt zero (suc (suc y)) h k = omega arith
max-lt (suc zero) zero h k = lit< tt
max-lt (suc zero) (suc zero) h k = lit< tt
max-lt (suc zero) (suc (suc y)) h k = omega arith
max-lt (suc (suc x)) y h k = omega arith

min-differ : (x y z : ℕ) → x < 2 → y < 2 → z < 2 → min (differ x y) z ≡ differ (min x z) (min y z)
min-differ zero zero zero h k l = refl
min-differ zero zero (suc zero) h k l = refl
min-differ zero (suc zero) zero h k l = refl
min-differ zero (suc zero) (suc zero) h k l = refl
min-differ (suc zero) zero zero h k l = refl
min-differ (suc zero) zero (suc zero) h k l = refl
min-differ (suc zero) (suc zero) zero h k l = refl
min-differ (suc zero) (suc zero) (suc zero) h k l = refl
min-differ (suc (suc x)) y z h k l = omega arith
min-differ zero (suc (suc y)) z h k l = omega arith
min-differ (suc zero) (suc (suc y)) z h k l = omega arith
min-differ zero zero (suc (suc z)) h k l = omega arith
min-differ zero (suc zero) (suc (suc z)) h k l = omega arith
min-differ (suc zero) zero (suc (suc z)) h k l = omega arith
min-differ (suc zero) (suc zero) (suc (suc z)) h k l = omega arith

min-max : (x y z : ℕ) → x < 2 → y < 2 → z < 2 → min (max x y) z ≡ max (min x z) (min y z)
min-max zero zero zero h k l = refl
min-max zero zero (suc zero) h k l = refl
min-max zero (suc zero) zero h k l = refl
min-max zero (suc zero) (suc zero) h k l = refl
min-max (suc zero) zero zero h k l = refl
min-max (suc zero) zero (suc zero) h k l = refl
min-max (suc zero) (suc zero) zero h k l = refl
min-max (suc zero) (suc zero) (suc zero) h k l = refl
min-max (suc (suc x)) y z h k l = omega arith
min-max zero (suc (suc y)) z h k l = omega arith
min-max (suc zero) (suc (suc y)) z h k l = omega arith
min-max zero zero (suc (suc z)) h k l = omega arith
min-max zero (suc zero) (suc (suc z)) h k l = omega arith
min-max (suc zero) zero (suc (suc z)) h k l = omega arith
min-max (suc zero) (suc zero) (suc (suc z)) h k l = omega arith

min-lt : (x y : ℕ) → x < 2 → min x y < 2
min-lt x y h = lt_of_le_of_lt (min-le_left x y) h

and-half : (a b : ℕ) → bit_and a b / 2 ≡ bit_and (a / 2) (b / 2)
and-half a b = ap (λ (x : ℕ). x / 2) (and_step a b) ∙ digits_div (bit_and (a / 2) (b / 2)) (min-lt (a % 2) (b % 2) (bit-lt a))

and-odd : (a b : ℕ) → bit_and a b % 2 ≡ min (a % 2) (b % 2)
and-odd a b = ap (λ (x : ℕ). x % 2) (and_step a b) ∙ digits_mod (bit_and (a / 2) (b / 2)) (min-lt (a % 2) (b % 2) (bit-lt a))

pub xor-half : (a b : ℕ) → bit_xor a b / 2 ≡ bit_xor (a / 2) (b / 2)
xor-half a b = ap (λ (x : ℕ). x / 2) (xor_step a b) ∙ digits_div (bit_xor (a / 2) (b / 2)) (differ-lt (a % 2) (b % 2) (bit-lt a) (bit-lt b))

pub xor-odd : (a b : ℕ) → bit_xor a b % 2 ≡ differ (a % 2) (b % 2)
xor-odd a b = ap (λ (x : ℕ). x % 2) (xor_step a b) ∙ digits_mod (bit_xor (a / 2) (b / 2)) (differ-lt (a % 2) (b % 2) (bit-lt a) (bit-lt b))

or-half : (a b : ℕ) → bit_or a b / 2 ≡ bit_or (a / 2) (b / 2)
or-half a b = ap (λ (x : ℕ). x / 2) (or_step a b) ∙ digits_div (bit_or (a / 2) (b / 2)) (max-lt (a % 2) (b % 2) (bit-lt a) (bit-lt b))

or-odd : (a b : ℕ) → bit_or a b % 2 ≡ max (a % 2) (b % 2)
or-odd a b = ap (λ (x : ℕ). x % 2) (or_step a b) ∙ digits_mod (bit_or (a / 2) (b / 2)) (max-lt (a % 2) (b % 2) (bit-lt a) (bit-lt b))

pub and_xor : (a b m : ℕ) → bit_and (bit_xor a b) m ≡ bit_xor (bit_and a m) (bit_and b m)
and_xor =
    bin_ind (λ (n : ℕ). (b m : ℕ) → bit_and (bit_xor n b) m ≡ bit_xor (bit_and n m) (bit_and b m)) (λ b m. refl)
    (λ n ih b m.
    and_step (bit_xor n b) m
    ∙ ap₂ (λ (x y : ℕ). x * 2 + y)
    (ap (λ (x : ℕ). bit_and x (m / 2)) (xor-half n b) ∙ ih (b / 2) (m / 2) ∙ sym (ap₂ bit_xor (and-half n m) (and-half b m)))
    (ap (λ (x : ℕ). min x (m % 2)) (xor-odd n b) ∙ min-differ (n % 2) (b % 2) (m % 2) (bit-lt n) (bit-lt b) (bit-lt m) ∙ sym (ap₂ differ (and-odd n m) (and-odd b m)))
    ∙ sym (xor_step (bit_and n m) (bit_and b m)))

pub and-or : (a b m : ℕ) → bit_and (bit_or a b) m ≡ bit_or (bit_and a m) (bit_and b m)
and-or =
    bin_ind (λ (n : ℕ). (b m : ℕ) → bit_and (bit_or n b) m ≡ bit_or (bit_and n m) (bit_and b m)) (λ b m. refl)
    (λ n ih b m.
    and_step (bit_or n b) m
    ∙ ap₂ (λ (x y : ℕ). x * 2 + y)
    (ap (λ (x : ℕ). bit_and x (m / 2)) (or-half n b) ∙ ih (b / 2) (m / 2) ∙ sym (ap₂ bit_or (and-half n m) (and-half b m)))
    (ap (λ (x : ℕ). min x (m % 2)) (or-odd n b) ∙ min-max (n % 2) (b % 2) (m % 2) (bit-lt n) (bit-lt b) (bit-lt m) ∙ sym (ap₂ max (and-odd n m) (and-odd b m)))
    ∙ sym (or_step (bit_and n m) (bit_and b m)))
