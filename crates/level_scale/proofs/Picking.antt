-- A scale picks the level that its variant uses. Assumes nothing.
use mathlib.Core.Bool.{Bool, true, false, cond}
use mathlib.Core.Path.{◌≡◌, refl, ap, ◌∙◌}
use Prim.Native.Nat.{ℕ, ◌+◌, ◌*◌, ◌/◌, ◌%◌, ◌≤◌, ◌<◌}
use native.Mathlib.Nat.{lt_of_le_of_lt}
use native.Mathlib.Omega.{arith}
use borrow.Author.Tests.{ne_eqb}
use lib.Bits.{bit_and, and_le_l}
use lib.Dec.{T, eqb, eqb→eq}
use Rattle.laws.proofs.Table.{all, each}
use Rattle.laws.proofs.Tests.{by_cond, by-eq, by-same}
use Rattle.levels.specs.Levels.{fixed_level, envelope_used, level_used}
use Rattle.levels.proofs.Laws.{fixed-lt}
use Rattle.level_scale.specs.declared.Scale.{Scale}
use Rattle.level_scale.specs.Scale.{scale_of, IsScale, lifted, by_envelope, source_of, used_of, picked}

-- what is made of a variant is a scale
pub made : (variant : ℕ) {s : Scale} → s ≡ scale_of variant → IsScale s
unfolding scale_of
made variant e = rw e

pub lift-lt : (s : Scale) → IsScale s → s.lift < 2
unfolding scale_of
lift-lt s h = rw h (omega arith)

-- the lift is 1 in variant 1, and else 0: twice the volume and the lift
lift-is : (b : Bool) → cond b 3 2 % 2 ≡ cond b 1 0
lift-is true = refl
lift-is false = refl

fixed-by : (b : Bool) (volume : ℕ) → lifted (cond b 1 0) volume ≡ cond b (cond (eqb volume 0) 0 (volume * 2 + 1)) (volume * 2)
unfolding lifted
fixed-by true v = refl
fixed-by false v = by-same v 0 (λ e. rw e) (λ f. rw (ne_eqb v 0 f) (omega arith))

lifted-is : (variant volume : ℕ) → lifted (scale_of variant).lift volume ≡ fixed_level variant volume
unfolding scale_of fixed_level
lifted-is variant volume = ap (λ (lift : ℕ). lifted lift volume) (lift-is (eqb variant 1)) ∙ fixed-by (eqb variant 1) volume

-- the bits of the mask, for the 32 levels
same_bits : Bool → ℕ → Bool
same_bits b level = eqb (bit_and level (cond b 30 31)) (cond b (level / 2 * 2) level)

all_same : (b : Bool) → T (all 32 (same_bits b))
unfolding same_bits
all_same true = tt
all_same false = tt

used-by : (b : Bool) (level : ℕ) → level < 32 → bit_and level (cond b 30 31) ≡ cond b (level / 2 * 2) level
unfolding same_bits
used-by b level h = eqb→eq (bit_and level (cond b 30 31)) (cond b (level / 2 * 2) level) (each 32 (same_bits b) (all_same b) level h)

used-is : (variant envelope : ℕ) → envelope < 32 → used_of (scale_of variant) envelope ≡ envelope_used variant envelope
unfolding used_of scale_of envelope_used
used-is variant envelope h = used-by (eqb variant 2) envelope h

pub used-lt : (s : Scale) (envelope : ℕ) → envelope < 32 → used_of s envelope < 32
unfolding used_of
used-lt s envelope h = lt_of_le_of_lt (and_le_l envelope s.mask) h

-- a source is a level index or 32, and what is picked by it a level index
source-le : (s : Scale) (volume : ℕ) → s.lift < 2 → source_of s volume ≤ 32
unfolding source_of lifted
source-le s volume h =
    by_cond (λ n. n ≤ 32) (eqb (volume / 16 % 2) 1) by_envelope (lifted s.lift (volume % 16)) (λ _. omega arith)
    (λ _. by_cond (λ n. n ≤ 32) (eqb (volume % 16) 0) 0 (volume % 16 * 2 + s.lift) (λ _. omega arith) (λ _. omega arith))

pub made-le : (s : Scale) (volume : ℕ) → IsScale s → source_of s volume ≤ 32
made-le s volume h = source-le s volume (lift-lt s h)

pub picked-lt : (source used : ℕ) → source ≤ 32 → used < 32 → picked source used < 32
unfolding picked
picked-lt source used h k = by-eq (λ n. n < 32) source by_envelope (λ _. k) (λ f. omega arith)

-- a fixed level is its own source
picks-fixed : (level used : ℕ) → level < 32 → picked level used ≡ level
unfolding picked
picks-fixed level used h = rw (ne_eqb level by_envelope (λ e. omega arith))

pub picks-level : (variant volume envelope : ℕ) → envelope < 32
    → picked (source_of (scale_of variant) volume) (used_of (scale_of variant) envelope) ≡ level_used variant volume envelope
unfolding source_of level_used picked
picks-level variant volume envelope h = by_bit (eqb (volume / 16 % 2) 1)
  where
    by_bit : (b : Bool)
        → picked (cond b by_envelope (lifted (scale_of variant).lift (volume % 16))) (used_of (scale_of variant) envelope)
        ≡ cond b (envelope_used variant envelope) (fixed_level variant (volume % 16))
    by_bit true = used-is variant envelope h
    by_bit false =
        rw (lifted-is variant (volume % 16)) (picks-fixed (fixed_level variant (volume % 16)) (used_of (scale_of variant) envelope) (fixed-lt variant (volume % 16) (omega arith)))
