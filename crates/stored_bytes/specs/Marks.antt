-- Which registers were written. 01, "Registers and ports". Assumes nothing.
use Rattle.std.specs.Prelude.{Bool, ℕ, ◌^◌, eqb}
use Rattle.std.specs.Int.Bits.{bit_and, bit_or}

-- a bit for each register that was written, R0's the lowest
abbrev pub marked : ℕ → ℕ → ℕ
marked register marks = bit_or marks (2 ^ register)

-- none of these registers was written
abbrev pub unwritten : ℕ → ℕ → Bool
unwritten registers marks = eqb (bit_and marks registers) 0
