-- 01 compares levels, and `output_of` compares their indices: that is the same, since no two levels are equal, halved or not. Assumes nothing.
use mathlib.Core.Path.{◌≡◌}
use mathlib.Core.Bool.{Bool, true, false, cond}
use Prim.Native.Nat.{ℕ, ◌<◌}
use borrow.Author.Tests.{eq-eqb}
use lib.Dec.{T, eqb, eqb→eq}
use Rattle.laws.proofs.Table.{all, each}
use Rattle.levels.specs.Levels.{loudness_of}

-- levels that agree have one index: a test over 32 indices, each against 32
agree : Bool → ℕ → ℕ → Bool
unfolding loudness_of
agree half i j = cond (eqb (loudness_of half i) (loudness_of half j)) (eqb i j) true

all-agree : (half : Bool) → T (all 32 (λ i. all 32 (agree half i)))
unfolding agree loudness_of
all-agree true = tt
all-agree false = tt

pub level-index : (half : Bool) (i j : ℕ) → i < 32 → j < 32 → loudness_of half i ≡ loudness_of half j → i ≡ j
unfolding agree
level-index half i j h k e =
    let t : T (agree half i j) = each 32 (agree half i) (each 32 (λ i. all 32 (agree half i)) (all-agree half) i h) j k in
    eqb→eq i j (rw (eq-eqb (loudness_of half i) (loudness_of half j) e) at t)
