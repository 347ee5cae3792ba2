-- Bounds of the level's rules, for a caller's proof to lean on, and 01's own rule, variant 0's. 01, "One tick, one word". Assumes nothing.
use mathlib.Core.Bool.{Bool, cond}
use mathlib.Core.Path.{◌≡◌, refl}
use Prim.Native.Nat.{ℕ, ◌+◌, ◌*◌, ◌/◌, ◌%◌, ◌≤◌, ◌<◌}
use native.Mathlib.Nat.{le_trans, lt_of_le_of_lt, div-le_self}
use native.Mathlib.Omega.{arith}
use lib.Bits.{and_le_l}
use lib.Dec.{eqb}
use Rattle.laws.proofs.Tests.{by_cond}
use Rattle.tables.specs.Levels.{level_of}
use Rattle.tables.proofs.Laws.{level-le}
use Rattle.levels.specs.Levels.{fixed_level, envelope_used, level_used, gated_level, loudness_of}

-- variant 0 is 01's rule, unchanged: "the envelope's if bit 4 of its volume is set, else twice the volume"
pub variant-0 : (volume envelope : ℕ) → level_used 0 volume envelope ≡ cond (eqb (volume / 16 % 2) 1) envelope (volume % 16 * 2)
unfolding level_used envelope_used fixed_level
variant-0 v e = refl

pub fixed-lt : (variant volume : ℕ) → volume < 16 → fixed_level variant volume < 32
unfolding fixed_level
fixed-lt a v h =
    by_cond (λ n. n < 32) (eqb a 1) (cond (eqb v 0) 0 (v * 2 + 1)) (v * 2)
    (λ _. by_cond (λ n. n < 32) (eqb v 0) 0 (v * 2 + 1) (λ _. omega arith) (λ _. omega arith)) (λ _. omega arith)

envelope-lt : (variant level : ℕ) → level < 32 → envelope_used variant level < 32
unfolding envelope_used
envelope-lt a e h = by_cond (λ n. n < 32) (eqb a 2) (e / 2 * 2) e (λ _. omega arith) (λ _. h)

-- in every variant a volume gives a level index where the envelope does
pub used-lt : (variant volume envelope : ℕ) → envelope < 32 → level_used variant volume envelope < 32
unfolding level_used
used-lt a v e h =
    by_cond (λ n. n < 32) (eqb (v / 16 % 2) 1) (envelope_used a e) (fixed_level a (v % 16)) (λ _. envelope-lt a e h) (λ _. fixed-lt a (v % 16) (omega arith))

-- the gate only takes bits away
pub gated-lt : (index gate : ℕ) → index < 32 → gated_level index gate < 32
unfolding gated_level
gated-lt i g h = lt_of_le_of_lt (and_le_l i (g % 32)) h

-- no level is above 10922, halved or not
pub loudness-le : (half : Bool) (index : ℕ) → index < 32 → loudness_of half index ≤ 10922
unfolding loudness_of
loudness-le half i h = by_cond (λ n. n ≤ 10922) half (level_of i / 2) (level_of i) (λ _. le_trans (div-le_self (level_of i) 2) (level-le i h)) (λ _. level-le i h)
