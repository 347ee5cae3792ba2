-- The level of a channel. 01, "One tick, one word"; 02, request 05, for what a variant changes: the first two definitions, and no other, look
-- at it, and take one above 2 as 0. Assumes nothing.
use Rattle.std.specs.Prelude.{Bool, cond, ℕ, ◌+◌, ◌*◌, ◌/◌, ◌%◌, eqb}
use Rattle.std.specs.Int.Bits.{bit_and}
use Rattle.tables.specs.Levels.{level_of}

-- Variant 1: "volume v uses level 2v + 1 for v from 1 to 15 and 0 for 0"; else "fixed levels stay 2v".
unfoldable pub fixed_level : ℕ → ℕ → ℕ
fixed_level variant volume = cond (eqb variant 1) (cond (eqb volume 0) 0 (volume * 2 + 1)) (volume * 2)

-- Variant 2: "an envelope level is used with its lowest bit cleared".
unfoldable pub envelope_used : ℕ → ℕ → ℕ
envelope_used variant level = cond (eqb variant 2) (level / 2 * 2) level

-- A channel's level is the envelope's if bit 4 of its volume is set, else twice the volume;
unfoldable pub level_used : ℕ → ℕ → ℕ → ℕ
level_used variant volume envelope = cond (eqb (volume / 16 % 2) 1) (envelope_used variant envelope) (fixed_level variant (volume % 16))

-- AND-ed with the gate.
unfoldable pub gated_level : ℕ → ℕ → ℕ
gated_level index gate = bit_and index (gate % 32)

-- A channel whose tone period is at most 1 is halved, rounding down.
unfoldable pub loudness_of : Bool → ℕ → ℕ
loudness_of half index = cond half (level_of index / 2) (level_of index)
