-- A block that is accepted is short enough, and ends in time. Assumes nothing.
use mathlib.Core.Path.{◌≡◌}
use Prim.Native.Nat.{ℕ, ◌+◌, ◌*◌, ◌^◌, ◌≤◌, ◌<◌}
use native.Mathlib.Nat.{lt_of_le_of_lt, mul-le-mul}
use native.Mathlib.Omega.{arith}
use lib.Dec.{lit<}
use Rattle.block_limits.specs.Limits.{accept_block, block_number}

pub record Fits (n start cycles : ℕ) : Type 0 where
  pub short : n ≤ 65536
  pub soon : start + n * cycles < 2 ^ 64

pub fits : (n start cycles : ℕ) → block_number n start cycles ≡ 0 → Fits n start cycles
unfolding block_number accept_block
fits n start cycles e = record { short = grind arith; soon = grind arith }

pub span_fits : (n start cycles : ℕ) → n ≤ 65536 → cycles ≤ 4294967295 → n * cycles < 2 ^ 64
span_fits n start cycles short h = lt_of_le_of_lt (mul-le-mul short h) (lit< tt)

-- a short block that ends in time is accepted
pub in-time : (n start cycles : ℕ) → n ≤ 65536 → start + n * cycles < 2 ^ 64 → block_number n start cycles ≡ 0
unfolding block_number accept_block
in-time n start cycles short soon = grind arith
