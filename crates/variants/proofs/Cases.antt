-- A making's number, case by case: the clocks' where it is not 0, then the variant's. Assumes nothing.
use mathlib.Core.Bool.{cond}
use mathlib.Core.Path.{◌≡◌}
use Prim.Native.Nat.{ℕ}
use lib.Dec.{eqb}
use native.Mathlib.Omega.{arith}
use borrow.Author.Tests.{ne_eqb}
use Rattle.std.specs.Prelude.{Result, Ok, Err}
use Rattle.refusals.specs.Numbers.{accepted, answer_no, no_such_variant}
use Rattle.refusals.specs.declared.Refusal.{Refusal}
use Rattle.refusals.proofs.Tested.{number-some}
use Rattle.clocks.specs.Clocks.{accept_clocks, clocks_no}
use Rattle.variants.specs.Variants.{variant_in, after_clocks, accept_making, making_no}

after-cases : (tested : Result (Unit {0}) Refusal) (variant : ℕ)
    → answer_no (after_clocks tested variant) ≡ cond (eqb (answer_no tested) accepted) (cond (variant_in variant) accepted no_such_variant) (answer_no tested)
after-cases (Ok done) variant = grind arith
after-cases (Err why) variant = rw (ne_eqb (answer_no {A = Unit {0}} (Err why)) accepted (number-some why))

pub making-cases : (master rate variant : ℕ)
    → making_no master rate variant ≡ cond (eqb (clocks_no master rate) accepted) (cond (variant_in variant) accepted no_such_variant) (clocks_no master rate)
unfolding making_no accept_making clocks_no
making-cases master rate variant = after-cases (accept_clocks master rate) variant
