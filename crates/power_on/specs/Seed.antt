-- The edges that the tones start with. 01, "Power-on and reset". Assumes nothing.
use Rattle.std.specs.Prelude.{ℕ, ◌+◌, ◌*◌, ◌/◌, ◌%◌, ◌^◌, bit_and}

-- The seed is 1 times 214,013 plus 2,531,011 modulo 2^32; bits 16 to 30 give 41.
unfoldable pub seeded : ℕ → ℕ
seeded seed = (seed * 214013 + 2531011) % 2 ^ 32 / 2 ^ 16 % 2 ^ 15

-- Masked by 0x421 and times 0x1f that is 0x3ff: A and B start high, C low.
unfoldable pub power_on_edges : ℕ
unfolding seeded
power_on_edges = bit_and (seeded 1) 0x421 * 0x1f
