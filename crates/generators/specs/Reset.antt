-- Power-on and reset of the generators. 01, "Power-on and reset". Assumes nothing.
use Rattle.std.specs.Prelude.{false, pos}
use Rattle.std.specs.Int.Bits.{bit_and}
use Rattle.tables.specs.Masks.{five_bits}
use Rattle.generators.specs.declared.Generators.{Generators}
use Rattle.power_on.specs.Seed.{power_on_edges}
use Rattle.tone.specs.Tone.{tone_reset}
use Rattle.noise.specs.Noise.{noise_reset}
use Rattle.envelope.specs.Envelope.{envelope_reset}

-- Reset of all: the noise and envelope periods stay.
unfoldable pub generators_reset : Generators → Generators
generators_reset g =
    record {
      a = tone_reset (bit_and power_on_edges (five_bits 0));
      b = tone_reset (bit_and power_on_edges (five_bits 1));
      c = tone_reset (bit_and power_on_edges (five_bits 2));
      noise = noise_reset g.noise;
      envelope = envelope_reset g.envelope;
    }

-- Power-on is reset of a blank, whose periods are 0.
abbrev pub blank : Generators
blank =
    record {
      a = tone_reset 0;
      b = tone_reset 0;
      c = tone_reset 0;
      noise = noise_reset (record { counter = 0; period = 0; register = 1; output = 0; half = false });
      envelope = envelope_reset (record { counter = 0; period = 0; position = pos 0; offset = 0 });
    }

abbrev pub generators_new : Generators
generators_new = generators_reset blank
