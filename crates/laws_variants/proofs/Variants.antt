-- The claims of the variants, each by its law. Assumes nothing.
use mathlib.Core.Path.{◌≡◌, refl}
use Prim.Native.Nat.{ℕ, ◌≤◌, ◌<◌}
use borrow.Author.Tests.{le-leb, lt-leb, eq-eqb, ne_eqb}
use Rattle.refusals.specs.Numbers.{accepted, no_such_variant}
use Rattle.levels.proofs.Laws.{variant-0, used-lt}
use Rattle.clocks.specs.Clocks.{clocks_no}
use Rattle.chip.specs.Clocks.{clocks_of}
use Rattle.answers.specs.Answers.{answered}
use Rattle.calls_making.specs.Making.{made_of, fresh, with_variant}
use Rattle.variants.specs.Variants.{variant_in}
use Rattle.variants.proofs.Cases.{making-cases}
use Rattle.calls_making.proofs.Makings.{default-variant}
use Rattle.laws_variants.specs.Claims.{Variants}
use Rattle.laws_variants.proofs.Levels.{lifted, silent, as-it-is, cleared, fixed, above}
use Rattle.laws_variants.proofs.Refused.{gives-22, stays}

module _ (master rate variant : ℕ) where
  clocks-first : (clocks_no master rate ≡ accepted → ⊥) → with_variant master rate variant ≡ answered (clocks_no master rate) fresh
  unfolding with_variant
  clocks-first f = let e = ne_eqb (clocks_no master rate) accepted f in rw (making-cases master rate variant, e, e)

  thirteen : clocks_no master rate ≡ accepted → 2 < variant → with_variant master rate variant ≡ answered no_such_variant fresh
  unfolding with_variant variant_in
  thirteen ok h = rw (making-cases master rate variant, eq-eqb (clocks_no master rate) accepted ok, lt-leb variant 2 h)

  makes : clocks_no master rate ≡ accepted → variant ≤ 2 → with_variant master rate variant ≡ answered accepted (made_of (clocks_of master rate) variant)
  unfolding with_variant variant_in
  makes ok h = rw (making-cases master rate variant, eq-eqb (clocks_no master rate) accepted ok, le-leb variant 2 h)

default : fresh.core.variant ≡ 0
unfolding fresh made_of
default = refl

pub variants : Variants
variants =
    record {
      variant-0 = variant-0;
      lifted = lifted;
      silent = silent;
      as-it-is = as-it-is;
      cleared = cleared;
      fixed = fixed;
      above = λ variant volume envelope. above volume envelope variant;
      below-32 = used-lt;
      clocks-first = clocks-first;
      thirteen = thirteen;
      makes = makes;
      by-clocks = default-variant;
      default = default;
      gives-22 = gives-22;
      stays = stays;
    }
