-- A making of the default variant. 02, request 05. Assumes nothing.
use mathlib.Core.Bool.{cond}
use mathlib.Core.Path.{◌≡◌, sym, ap}
use Prim.Native.Nat.{ℕ}
use lib.Dec.{eqb}
use Rattle.refusals.specs.Numbers.{accepted}
use Rattle.variants.proofs.Makings.{clocks-alone}
use Rattle.chip.specs.Clocks.{clocks_of}
use Rattle.answers.specs.Answers.{answered}
use Rattle.calls_making.specs.Making.{made_of, default_variant, fresh, with_clocks, with_variant}

pub default-variant : (master rate : ℕ) → with_clocks master rate ≡ with_variant master rate default_variant
unfolding with_clocks with_variant fresh
default-variant master rate =
    ap (λ (n : ℕ). cond (eqb n accepted) (answered accepted (made_of (clocks_of master rate) default_variant)) (answered n fresh)) (sym (clocks-alone master rate))
