-- Bounds of the gates, for a caller's proof to lean on. 01, "What changes shape". Assumes nothing.
use Prim.Native.Nat.{ℕ, ◌/◌, ◌%◌, ◌≤◌}
use native.Mathlib.Omega.{arith}
use Rattle.tables.proofs.Laws.{gate-mask-le}
use Rattle.gates.specs.Gates.{gates_from}

-- whatever the byte, R7's masks keep to fifteen bits
pub gates-in-range : (value : ℕ) → ((gates_from value).tone ≤ 0x7fff) × ((gates_from value).noise ≤ 0x7fff)
unfolding gates_from
gates-in-range v = (gate-mask-le (v % 8) (omega arith), gate-mask-le (v / 8 % 8) (omega arith))
