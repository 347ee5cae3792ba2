-- Maps that are linear over XOR: each is known by what it makes of the single bits. Assumes nothing.
use mathlib.Core.List.{List, [], ◌∷◌}
use mathlib.Core.Path.{◌≡◌, refl, sym, ap, ap₂, ◌∙◌, subst}
use Prim.Native.Nat.{ℕ, zero, suc, ◌+◌, ◌*◌, ◌/◌, ◌%◌, ◌^◌, ◌<◌}
use native.Mathlib.Nat.{add-zero, div-add-mod', div-lt_iff_lt-mul, pow-suc}
use native.Mathlib.Omega.{arith}
use lib.Arith.{bin_ind}
use lib.Bits.{bit_xor, differ, xor_step, xor_zero_r, xor_comm, xor_self, xor_block, xor_shifted}
use lib.Dec.{lit<}
use Rattle.laws.proofs.Digits.{bit-lt, xor-half, xor-odd}

-- XOR is associative, digit by digit
differ-assoc : (x y z : ℕ) → x < 2 → y < 2 → z < 2 → differ (differ x y) z ≡ differ x (differ y z)
differ-assoc zero y z h k l = refl
differ-assoc (suc zero) zero z h k l = refl
differ-assoc (suc zero) (suc zero) zero h k l = refl
differ-assoc (suc zero) (suc zero) (suc zero) h k l = refl
differ-assoc (suc zero) (suc zero) (suc (suc z)) h k l = omega arith
differ-assoc (suc zero) (suc (suc y)) z h k l = omega arith
differ-assoc (suc (suc x)) y z h k l = omega arith

xor_assoc : (a b c : ℕ) → bit_xor (bit_xor a b) c ≡ bit_xor a (bit_xor b c)
xor_assoc =
    bin_ind (λ (n : ℕ). (b c : ℕ) → bit_xor (bit_xor n b) c ≡ bit_xor n (bit_xor b c)) (λ b c. refl)
    (λ n ih b c.
    xor_step (bit_xor n b) c
    ∙ ap₂ (λ (x y : ℕ). x * 2 + y)
    (ap (λ (x : ℕ). bit_xor x (c / 2)) (xor-half n b) ∙ ih (b / 2) (c / 2) ∙ ap (λ (x : ℕ). bit_xor (n / 2) x) (sym (xor-half b c)))
    (ap (λ (x : ℕ). differ x (c % 2)) (xor-odd n b) ∙ differ-assoc (n % 2) (b % 2) (c % 2) (bit-lt n) (bit-lt b) (bit-lt c) ∙ ap (λ (x : ℕ). differ (n % 2) x) (sym (xor-odd b c)))
    ∙ sym (xor_step n (bit_xor b c)))

xor-mix : (a b c d : ℕ) → bit_xor (bit_xor a b) (bit_xor c d) ≡ bit_xor (bit_xor a c) (bit_xor b d)
xor-mix a b c d =
    xor_assoc a b (bit_xor c d)
    ∙ ap (λ (x : ℕ). bit_xor a x) (sym (xor_assoc b c d) ∙ ap (λ (x : ℕ). bit_xor x d) (xor_comm b c) ∙ xor_assoc c b d)
    ∙ sym (xor_assoc a c (bit_xor b d))

-- the number c where the digit is not 0, and 0 where it is
abbrev pub when : ℕ → ℕ → ℕ
when zero c = 0
when (suc d) c = c

when-xor : (x y c : ℕ) → x < 2 → y < 2 → when (differ x y) c ≡ bit_xor (when x c) (when y c)
when-xor zero y c h k = refl
when-xor (suc zero) zero c h k = sym (xor_zero_r c)
when-xor (suc zero) (suc zero) c h k = sym (xor_self c)
when-xor (suc zero) (suc (suc y)) c h k = omega arith
when-xor (suc (suc x)) y c h k = omega arith

abbrev pub Linear : (ℕ → ℕ) → Type 0
Linear f = (f 0 ≡ 0) × ((a b : ℕ) → f (bit_xor a b) ≡ bit_xor (f a) (f b))

-- g of the half, and c where the low bit is 1
abbrev pub fold : (ℕ → ℕ) → ℕ → ℕ → ℕ
fold g c s = bit_xor (g (s / 2)) (when (s % 2) c)

pub fold-linear : (g : ℕ → ℕ) (c : ℕ) → Linear g → Linear (fold g c)
fold-linear g c l = (
  ap (λ (x : ℕ). bit_xor x 0) l.0,
  λ a b.
      ap₂ bit_xor (ap g (xor-half a b) ∙ l.1 (a / 2) (b / 2)) (ap (λ (x : ℕ). when x c) (xor-odd a b) ∙ when-xor (a % 2) (b % 2) c (bit-lt a) (bit-lt b))
      ∙ xor-mix (g (a / 2)) (g (b / 2)) (when (a % 2) c) (when (b % 2) c),
)

-- the map with the images cs of the bits 1, 2, 4, ..
unfoldable pub map_by : List ℕ → ℕ → ℕ
map_by [] s = 0
map_by (c ∷ cs) s = bit_xor (map_by cs (s / 2)) (when (s % 2) c)

pub map_by-linear : (cs : List ℕ) → Linear (map_by cs)
unfolding map_by
map_by-linear [] = (refl, λ a b. refl)
map_by-linear (c ∷ cs) = fold-linear (map_by cs) c (map_by-linear cs)

-- the images of the n lowest bits
unfoldable pub images : ℕ → (ℕ → ℕ) → List ℕ
images zero f = []
images (suc n) f = f 1 ∷ images n (λ t. f (t * 2))

double-linear : (f : ℕ → ℕ) → Linear f → Linear (λ t. f (t * 2))
double-linear f l = (l.0, λ a b. ap f (twice a b) ∙ l.1 (a * 2) (b * 2))
  where
    twice : (a b : ℕ) → bit_xor a b * 2 ≡ bit_xor (a * 2) (b * 2)
    twice a b = sym (add-zero (bit_xor a b * 2)) ∙ sym (xor_block 1 a b 0 0 (lit< tt) (lit< tt)) ∙ ap₂ bit_xor (add-zero (a * 2)) (add-zero (b * 2))

of-bit : (f : ℕ → ℕ) → Linear f → (x : ℕ) → x < 2 → f x ≡ when x (f 1)
of-bit f l zero h = l.0
of-bit f l (suc zero) h = refl
of-bit f l (suc (suc x)) h = omega arith

only_zero : (s : ℕ) → s < 1 → s ≡ 0
only_zero s h = omega arith

half_lt : (n s : ℕ) → s < 2 ^ suc n → s / 2 < 2 ^ n
half_lt n s h = (div-lt_iff_lt-mul (lit< tt)).1 (subst (λ (x : ℕ). s < x) (pow-suc 2 n) h)

-- a linear map is the one with its images
pub by-images : (n : ℕ) (f : ℕ → ℕ) → Linear f → (s : ℕ) → s < 2 ^ n → f s ≡ map_by (images n f) s
unfolding map_by images
by-images zero f l s h = ap f (only_zero s h) ∙ l.0
by-images (suc n) f l s h =
    ap f (sym (xor_shifted (s / 2) 1 (s % 2) (bit-lt s) ∙ div-add-mod' s 2))
    ∙ l.1 (s / 2 * 2) (s % 2)
    ∙ ap₂ bit_xor (by-images n (λ t. f (t * 2)) (double-linear f l) (s / 2) (half_lt n s h)) (of-bit f l (s % 2) (bit-lt s))
