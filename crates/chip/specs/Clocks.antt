-- The quotients of accepted clocks. 01, "One tick, one word". Assumes nothing.
use Rattle.std.specs.Prelude.{ℕ, ◌*◌, ◌/◌}
use Rattle.chip.specs.declared.Clocks.{Clocks}

-- the internal clock (master / 8), and a word's cycles (4 × master / rate, rounded down)
abbrev pub clocks_of : ℕ → ℕ → Clocks
clocks_of master rate = record { master = master; rate = rate; internal = master / 8; cycles = 4 * master / rate }
