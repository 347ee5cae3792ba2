-- What accepted clocks are. Assumes nothing.
use mathlib.Core.Path.{◌≡◌}
use Prim.Native.Nat.{ℕ, ◌/◌, ◌≤◌, ◌<◌}
use native.Mathlib.Omega.{arith}
use Rattle.std.specs.Prelude.{Bool, true, false, Result, is_err}
use Rattle.refusals.specs.Numbers.{accepted}
use Rattle.refusals.specs.declared.Refusal.{Refusal}
use Rattle.clocks.specs.Clocks.{accept_clocks, clocks_no}

-- the rate is at least 1 and at most the internal clock, which is small
pub record Accepted (master rate : ℕ) : Type 0 where
  pub some : 0 < rate
  pub slow : rate ≤ master / 8
  pub small : master ≤ 1073741823

pub accepts : (master rate : ℕ) → clocks_no master rate ≡ 0 → Accepted master rate
unfolding clocks_no accept_clocks
accepts master rate = grind arith

-- what the code's test of the answer says of its number
pub accepted-when : (master rate : ℕ) {tested : Result (Unit {0}) Refusal} {t : Bool} → tested ≡ accept_clocks master rate → t ≡ is_err tested → t ≡ false
    → clocks_no master rate ≡ accepted
unfolding clocks_no accept_clocks
accepted-when master rate e v f = grind arith

pub refused-when : (master rate : ℕ) {tested : Result (Unit {0}) Refusal} {t : Bool} → tested ≡ accept_clocks master rate → t ≡ is_err tested → t ≡ true
    → clocks_no master rate ≡ accepted → ⊥
unfolding clocks_no accept_clocks
refused-when master rate e v f = grind arith
