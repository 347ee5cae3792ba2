-- The ticks of one word. 01, "One tick, one word". Assumes nothing.
use Rattle.std.specs.Prelude.{cond, ℕ, zero, suc, ◌+◌, ◌-◌, ◌≤◌, ◌<◌, leb}
use Rattle.std.specs.Int.Bits.{bit_or}
use Rattle.generators.specs.declared.Generators.{Generators}
use Rattle.generators.specs.Generators.{tick, edges_of}
use Rattle.gates.specs.declared.Gates.{Gates}
use Rattle.gates.specs.Gates.{gate_of}
use Rattle.clocking_ticks.specs.declared.Ran.{Ran}

-- the gate of the generators' edges and noise
abbrev pub gate_now : Gates → Generators → ℕ
gate_now gates g = gate_of gates (edges_of g) g.noise.output

-- One tick more: its gate OR-ed, the rate added to the accumulator.
abbrev pub one_more : Gates → ℕ → Ran → Ran
one_more gates rate r =
    record {
      generators = tick r.generators;
      gate = bit_or r.gate (gate_now gates (tick r.generators));
      accumulator = r.accumulator + rate;
      ticks = r.ticks + 1;
    }

-- The internal clock taken off.
abbrev pub taken_off : ℕ → Ran → Ran
taken_off internal r = record { generators = r.generators; gate = r.gate; accumulator = r.accumulator - internal; ticks = r.ticks }

-- Then ticks run, their gates OR-ed, adding the rate to the accumulator; the ticking stops at the first tick that brings the
-- accumulator to the internal clock, which is then taken off, and the gathered gate is the result.
-- The first number bounds the ticks: the rate is at least 1, so as many as the internal clock are enough.
unfoldable pub ticking : ℕ → Gates → ℕ → ℕ → Ran → Ran
ticking zero gates rate internal r = r
ticking (suc k) gates rate internal r =
    let more = ticking k gates rate internal (one_more gates rate r) in
    cond (leb internal (r.accumulator + rate)) (taken_off internal (one_more gates rate r)) more

unfoldable pub ticked : Gates → ℕ → ℕ → Generators → ℕ → Ran
ticked gates rate internal g accumulator =
    ticking internal gates rate internal (record { generators = g; gate = 0; accumulator = accumulator; ticks = 0 })
