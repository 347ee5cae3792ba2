-- Which channels are let through. 01, "Registers and ports" and "One tick, one word". Assumes nothing.
use Rattle.std.specs.Prelude.{ℕ, ◌/◌, ◌%◌}
use Rattle.std.specs.Int.Bits.{bit_and, bit_or}
use Rattle.tables.specs.Masks.{gate_mask}
use Rattle.gates.specs.declared.Gates.{Gates}

-- 7 [sets] the gates (bits 0 to 2 tone, 3 to 5 noise, A first; a set bit fills that channel's five mask bits)
unfoldable pub gates_from : ℕ → Gates
gates_from value = record { tone = gate_mask (value % 8); noise = gate_mask (value / 8 % 8) }

-- Gate: (edges or tone mask) and (noise or noise mask).
unfoldable pub gate_of : Gates → ℕ → ℕ → ℕ
gate_of gates edges noise = bit_and (bit_or edges gates.tone) (bit_or noise gates.noise)
