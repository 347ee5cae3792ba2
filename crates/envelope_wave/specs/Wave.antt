-- What the four segments of a shape do. 01, "One tick, one word"; that these are 01's entries is `wave-entry` (proofs/Entries.antt).
-- Assumes nothing.
use Rattle.std.specs.Prelude.{◌≡◌, ℕ, ◌+◌, ◌*◌, ◌/◌, ◌%◌, ◌^◌}
use Rattle.std.specs.Int.Bits.{bit_and, bit_xor}
use Rattle.envelope_shapes.specs.Shapes.{envelope_entry}
use Rattle.envelope_wave.specs.declared.Wave.{Wave}

-- the entries at step j of the four segments, a byte each, the first lowest
abbrev pub at_step : ℕ → ℕ → ℕ
at_step offset j =
    envelope_entry offset j + 256 * envelope_entry offset (32 + j) + 65536 * envelope_entry offset (64 + j) + 16777216 * envelope_entry offset (96 + j)

-- a segment is turned over where it begins at 31, and moves where its last entry is not its first
unfoldable pub wave_of : ℕ → Wave
wave_of offset = record { keeps = bit_xor (at_step offset 0) (at_step offset 31); turns = at_step offset 0; offset = offset }

-- a wave that was made of its offset
abbrev pub IsWave : Wave → Type 0
IsWave w = w ≡ wave_of w.offset

-- what a wave has of segment k
abbrev pub segment : ℕ → ℕ → ℕ
segment k four = four / 2 ^ (k % 4 * 8)

-- (j and keep) xor turn, in five bits, where place is 32k + j
unfoldable pub wave_entry : ℕ → Wave → ℕ
wave_entry place w = bit_xor (bit_and (place % 32) (segment (place / 32) w.keeps)) (segment (place / 32) w.turns) % 32
