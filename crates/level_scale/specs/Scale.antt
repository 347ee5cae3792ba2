-- What a variant means for the levels. 02, request 05; that a scale picks the level used is `picks-level` (proofs/Picking.antt).
-- Assumes nothing.
use Rattle.std.specs.Prelude.{cond, List, [], ◌∷◌, ◌≡◌, ℕ, ◌+◌, ◌*◌, ◌/◌, ◌%◌, eqb, get_or}
use Rattle.std.specs.Int.Bits.{bit_and}
use Rattle.levels.specs.Levels.{fixed_level, envelope_used}
use Rattle.level_scale.specs.declared.Scale.{Scale}

-- what volume 1 has beyond 2v, and what is used of the highest envelope level
unfoldable pub scale_of : ℕ → Scale
scale_of variant = record { variant = variant; lift = fixed_level variant 1 % 2; mask = envelope_used variant 31 }

-- a scale that was made of its variant
abbrev pub IsScale : Scale → Type 0
IsScale s = s ≡ scale_of s.variant

-- a fixed level: twice the volume, and the lift, but for volume 0
unfoldable pub lifted : ℕ → ℕ → ℕ
lifted lift volume = cond (eqb volume 0) 0 (volume * 2 + lift)

-- where a level comes from: a fixed one is its own source, and 32 says the envelope's, if bit 4 of the volume is set
abbrev pub by_envelope : ℕ
by_envelope = 32

unfoldable pub source_of : Scale → ℕ → ℕ
source_of s volume = cond (eqb (volume / 16 % 2) 1) by_envelope (lifted s.lift (volume % 16))

-- those of R8 to R10
abbrev pub sources_of : Scale → List ℕ → List ℕ
sources_of s volumes = source_of s (get_or volumes 0 0) ∷ source_of s (get_or volumes 1 0) ∷ source_of s (get_or volumes 2 0) ∷ []

-- what is used of an envelope level
unfoldable pub used_of : Scale → ℕ → ℕ
used_of s envelope = bit_and envelope s.mask

unfoldable pub picked : ℕ → ℕ → ℕ
picked source used = cond (eqb source by_envelope) used source
