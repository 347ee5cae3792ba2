-- The envelope's shapes. 01, "One tick, one word", and Yamaha's manual. Assumes nothing.
--
--  C A L H    0..3 \___   4..7 /___   8 \\\\   9 \___   10 \/\/   11 \‾‾‾   12 ////   13 /‾‾‾   14 /\/\   15 /___
use Rattle.std.specs.Prelude.{Bool, cond, not, ◌&&◌, ◌≡◌, ℕ, ◌+◌, ◌-◌, ◌*◌, ◌/◌, ◌%◌, ◌^◌, ◌≤◌, ltb, eqb}
use Rattle.std.specs.Bool.{beq}

-- rising means j, falling 31 - j
abbrev pub ramp : Bool → ℕ → ℕ
ramp rises j = cond rises j (31 - j)

abbrev pub differs : Bool → Bool → Bool
differs a b = not (beq a b)

abbrev pub odd : ℕ → Bool
odd k = eqb (k % 2) 1

-- Envelope entry for shape bits C A L H (bit 3 down to bit 0), segment k of 4, step j of 32.
-- C off: segment 0 rises if A, else falls; the rest 0.
-- C on, H off: rises if A differs from (L and k odd).
-- C and H on: segment 0 by A; the rest 31 if A differs from L, else 0.
abbrev pub by_bits : (C A L H : Bool) → ℕ → ℕ → ℕ
by_bits C A L H k j =
    cond (not C) (cond (eqb k 0) (ramp A j) 0)
    (cond (not H) (ramp (differs A (L && odd k)) j)
    (cond (eqb k 0) (ramp A j) (cond (differs A L) 31 0)))

abbrev pub bit : ℕ → ℕ → Bool
bit n shape = odd (shape / 2 ^ n)

-- where position plus 64 is 32k + j
unfoldable pub shape_entry : ℕ → ℕ → ℕ
shape_entry shape place = by_bits (bit 3 shape) (bit 2 shape) (bit 1 shape) (bit 0 shape) (place / 32) (place % 32)

-- The crate keeps a row of 128 for each of ten waves: shapes 0..3 share row 0, 4..7 row 1, and 8 to 15 have rows 2 to 9.
abbrev pub row_of : ℕ → ℕ
row_of shape = cond (ltb shape 8) (shape / 4) (shape - 6)

abbrev pub first_of_row : ℕ → ℕ
first_of_row row = cond (ltb row 2) (4 * row) (row + 6)

-- a shape's offset, and the entry at an offset and a place
abbrev pub offset_of : ℕ → ℕ
offset_of shape = 128 * row_of shape

unfoldable pub envelope_entry : ℕ → ℕ → ℕ
envelope_entry offset place = shape_entry (first_of_row (offset / 128)) place

-- a real shape offset
pub record RealOffset (offset : ℕ) : Type 0 where
  pub row : offset % 128 ≡ 0
  pub last : offset ≤ 1152
