-- The generators while ticks run, and what they mean. 01, "One tick, one word". No contract of a call that a user makes cites this
-- page. Assumes nothing.
use Rattle.std.specs.Prelude.{Bool, true, false, cond, ℕ, ◌+◌, ◌≤◌, ◌<◌, max, leb, ℤ}
use Rattle.std.specs.Int.Bits.{bit_and}
use Rattle.std.specs.Int.Signed.{mag}
use Rattle.tables.specs.Masks.{five_bits}
use Rattle.tone.specs.declared.Tone.{Tone}
use Rattle.tone.specs.Tone.{tone_step}
use Rattle.noise.specs.declared.Noise.{Noise}
use Rattle.noise.specs.Noise.{register_step, output_by}
use Rattle.envelope.specs.declared.Envelope.{Envelope}
use Rattle.envelope.specs.Envelope.{next_position}
use Rattle.generators.specs.declared.Generators.{Generators}
use Rattle.generators.specs.Generators.{edges_of}
use Rattle.clocking_generators.specs.declared.Turning.{Turning}

-- What it means: the counters in their places, each channel's edges by its five bits.
abbrev pub tone_shown : ℕ → ℕ → Tone → Tone
tone_shown counter edges t = record { counter = counter; period = t.period; edges = edges; pending = t.pending }

abbrev pub noise_shown : Turning → Noise → Noise
noise_shown t n = record { counter = t.noise; period = n.period; register = t.register; output = t.output; half = t.half }

abbrev pub envelope_shown : Turning → Envelope → Envelope
envelope_shown t e = record { counter = t.envelope; period = e.period; position = t.position; offset = e.offset }

unfoldable pub shown : Turning → Generators
shown t =
    record {
      a = tone_shown t.a (bit_and t.edges (five_bits 0)) t.rest.a;
      b = tone_shown t.b (bit_and t.edges (five_bits 1)) t.rest.b;
      c = tone_shown t.c (bit_and t.edges (five_bits 2)) t.rest.c;
      noise = noise_shown t t.rest.noise;
      envelope = envelope_shown t t.rest.envelope;
    }

unfoldable pub turning_of : Generators → Turning
turning_of g =
    record {
      rest = g;
      a = g.a.counter;
      b = g.b.counter;
      c = g.c.counter;
      edges = edges_of g;
      envelope = g.envelope.counter;
      position = g.envelope.position;
      noise = g.noise.counter;
      register = g.noise.register;
      output = g.noise.output;
      half = g.noise.half;
    }

-- Counters to 65,535, as those that they stand for; edges within the fifteen bits; a position of 32 bits.
pub record Held (t : Turning) : Type 0 where
  pub a : t.a ≤ 65535
  pub b : t.b ≤ 65535
  pub c : t.c ≤ 65535
  pub envelope : t.envelope ≤ 65535
  pub noise : t.noise ≤ 65535
  pub edges : t.edges < 32768
  pub position : mag t.position < 2147483648

-- One part changed.
abbrev pub new_tones : ℕ → ℕ → ℕ → ℕ → Turning → Turning
new_tones a b c edges t =
    record {
      rest = t.rest;
      a = a;
      b = b;
      c = c;
      edges = edges;
      envelope = t.envelope;
      position = t.position;
      noise = t.noise;
      register = t.register;
      output = t.output;
      half = t.half;
    }

abbrev pub new_envelope : ℕ → ℤ → Turning → Turning
new_envelope counter position t =
    record {
      rest = t.rest;
      a = t.a;
      b = t.b;
      c = t.c;
      edges = t.edges;
      envelope = counter;
      position = position;
      noise = t.noise;
      register = t.register;
      output = t.output;
      half = t.half;
    }

abbrev pub new_noise : ℕ → ℕ → ℕ → Bool → Turning → Turning
new_noise counter register output half t =
    record {
      rest = t.rest;
      a = t.a;
      b = t.b;
      c = t.c;
      edges = t.edges;
      envelope = t.envelope;
      position = t.position;
      noise = counter;
      register = register;
      output = output;
      half = half;
    }

-- A tick of each part, as of the generators that it stands for.
unfoldable pub tones_turned : Turning → Turning
tones_turned t =
    let a = tone_step (five_bits 0) t.rest.a.period t.a t.edges in
    let b = tone_step (five_bits 1) t.rest.b.period t.b a.edges in
    let c = tone_step (five_bits 2) t.rest.c.period t.c b.edges in
    new_tones a.counter b.counter c.counter c.edges t

unfoldable pub envelope_turned : Turning → Turning
envelope_turned t =
    cond (leb t.rest.envelope.period (t.envelope + 1)) (new_envelope 0 (next_position t.position) t)
    (new_envelope (t.envelope + 1) t.position t)

unfoldable pub noise_turned : Turning → Turning
noise_turned t =
    cond t.half (new_noise t.noise t.register t.output false t)
    (cond (leb (max t.rest.noise.period 1) (t.noise + 1))
    (new_noise 0 (register_step t.register) (output_by t.register) true t)
    (new_noise (t.noise + 1) t.register t.output true t))

unfoldable pub turned : Turning → Turning
turned t = noise_turned (envelope_turned (tones_turned t))
