-- The level that a variant uses, case by case. Assumes nothing.
use mathlib.Core.Path.{◌≡◌}
use Prim.Native.Nat.{ℕ, ◌+◌, ◌*◌, ◌/◌, ◌%◌, ◌<◌}
use native.Mathlib.Omega.{arith}
use borrow.Author.Tests.{eq-eqb, ne_eqb}
use Rattle.levels.specs.Levels.{fixed_level, envelope_used, level_used}
use Rattle.laws_variants.specs.Claims.{ByEnvelope, Fixed}

module _ (volume envelope : ℕ) where
  pub lifted : Fixed volume → 0 < volume % 16 → level_used 1 volume envelope ≡ volume % 16 * 2 + 1
  unfolding level_used fixed_level
  lifted f some = rw (f, ne_eqb (volume % 16) 0 (λ e. omega arith))

  pub silent : Fixed volume → volume % 16 ≡ 0 → level_used 1 volume envelope ≡ 0
  unfolding level_used fixed_level
  silent f none = rw (f, eq-eqb (volume % 16) 0 none)

  pub as-it-is : ByEnvelope volume → level_used 1 volume envelope ≡ envelope
  unfolding level_used envelope_used
  as-it-is e = rw e

  pub cleared : ByEnvelope volume → level_used 2 volume envelope ≡ envelope / 2 * 2
  unfolding level_used envelope_used
  cleared e = rw e

  pub fixed : Fixed volume → level_used 2 volume envelope ≡ volume % 16 * 2
  unfolding level_used fixed_level
  fixed f = rw f

  pub above : (variant : ℕ) → 2 < variant → level_used variant volume envelope ≡ level_used 0 volume envelope
  unfolding level_used fixed_level envelope_used
  above variant h = rw (ne_eqb variant 1 (λ e. omega arith), ne_eqb variant 2 (λ e. omega arith))
