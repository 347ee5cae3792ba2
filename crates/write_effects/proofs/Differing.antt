-- The loop over the fourteen places: what is found so far, and what the rest has, is what the whole has. Assumes nothing.
use mathlib.Core.Bool.{Bool, true, false, not}
use mathlib.Core.List.{List}
use mathlib.Core.Path.{◌≡◌, ap}
use Prim.Native.Nat.{ℕ, suc, ◌+◌, ◌-◌, ◌≤◌, ◌<◌}
use native.Mathlib.Omega.{arith}
use lib.Dec.{eqb}
use lib.ListN.{get_or}
use Rattle.write_effects.specs.Effects.{differences, one}

pub record Differing (before after : List ℕ) (found i : ℕ) : Type 0 where
  pub place : i ≤ 14
  pub few : found ≤ i
  pub rest : found + differences (14 - i) i before after ≡ differences 14 0 before after

pub one-le : (happened : Bool) → one happened ≤ 1
one-le true = omega arith
one-le false = omega arith

module _ {before after : List ℕ} {found i : ℕ} (d : Differing before after found i) where
  next : i < 14 → differences (14 - i) i before after ≡ one (not (eqb (get_or after i 0) (get_or before i 0))) + differences (14 - (i + 1)) (i + 1) before after
  unfolding differences
  next h =
      let more : 14 - i ≡ suc (14 - (i + 1)) = omega arith in
      ap (λ (n : ℕ). differences n i before after) more

  pub differing-on : {more : ℕ} → i < 14 → more ≡ found + one (not (eqb (get_or after i 0) (get_or before i 0))) → Differing before after more (i + 1)
  differing-on {more} h e =
      let n = next h in
      let r = d.rest in
      let one_at_most = one-le (not (eqb (get_or after i 0) (get_or before i 0))) in
      record { place = omega arith; few = omega (arith, d.few); rest = omega arith }

  pub differing-end : 14 ≤ i → found ≡ differences 14 0 before after
  unfolding differences
  differing-end h =
      let none : 14 - i ≡ 0 = omega arith in
      let r = rw none at d.rest in
      omega arith
