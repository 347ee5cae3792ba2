-- What callers lean on: an accepted text's clocks are in range, and a refusal's number and line are small. Assumes nothing.
use mathlib.Core.Path.{◌≡◌}
use mathlib.Core.List.{List}
use Prim.Native.Nat.{ℕ, ◌/◌, ◌≤◌, ◌<◌}
use native.Mathlib.Omega.{arith}
use Rattle.std.specs.Prelude.{Ok, Err}
use Rattle.refusals.specs.Numbers.{number_of}
use Rattle.refusals.specs.declared.Refusal.{Refusal}
use Rattle.dump_lines.proofs.Ranges.{master-range, rate-range}
use Rattle.dump_clocks.specs.Clocks.{clock_lines}
use Rattle.dump_clocks.specs.declared.ClockLines.{ClockLines}
use Rattle.dump_clocks.specs.declared.LineRefused.{LineRefused}

-- the clocks that a chip takes
pub record Paced (k : ClockLines) : Type 0 where
  pub top : k.master ≤ 1073741823
  pub some : 0 < k.rate
  pub slow : k.rate ≤ k.master / 8

-- a refusal's number is one of the table's
pub numbered : (why : Refusal) → (0 < number_of why) × (number_of why < 256)
numbered why = grind arith

module _ (t : List ℕ) where
  pub accepted-paced : (k : ClockLines) → clock_lines t ≡ Ok k → Paced k
  unfolding clock_lines
  accepted-paced k h = grind (arith, master-range, rate-range)

  pub refused-early : (e : LineRefused) → clock_lines t ≡ Err e → e.line ≤ 2
  unfolding clock_lines
  refused-early e h = grind arith
