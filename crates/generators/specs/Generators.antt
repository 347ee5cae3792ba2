-- All generators together. 01, "One tick, one word". Assumes nothing.
use Rattle.std.specs.Prelude.{Bool, cond, ℕ, eqb}
use Rattle.std.specs.Int.Bits.{bit_or}
use Rattle.tables.specs.Masks.{five_bits}
use Rattle.tone.specs.declared.Tone.{Tone}
use Rattle.generators.specs.declared.Generators.{Generators}
use Rattle.tone.specs.Tone.{tone_tick, tone_set, tone_released}
use Rattle.noise.specs.Noise.{noise_tick}
use Rattle.envelope.specs.Envelope.{envelope_tick}

-- One tick of each: three tones, the noise, the envelope.
unfoldable pub tick : Generators → Generators
tick g =
    record {
      a = tone_tick (five_bits 0) g.a;
      b = tone_tick (five_bits 1) g.b;
      c = tone_tick (five_bits 2) g.c;
      noise = noise_tick g.noise;
      envelope = envelope_tick g.envelope;
    }

-- the edges of the three tones, five bits each
unfoldable pub edges_of : Generators → ℕ
edges_of g = bit_or (bit_or g.a.edges g.b.edges) g.c.edges

-- channel 0 is A, 1 is B, 2 is C
unfoldable pub tone_at : ℕ → Generators → Tone
tone_at n g = cond (eqb n 0) g.a (cond (eqb n 1) g.b g.c)

unfoldable pub put_tone : ℕ → Tone → Generators → Generators
put_tone n t g =
    cond (eqb n 0) (record { a = t; b = g.b; c = g.c; noise = g.noise; envelope = g.envelope })
    (cond (eqb n 1) (record { a = g.a; b = t; c = g.c; noise = g.noise; envelope = g.envelope })
    (cond (eqb n 2) (record { a = g.a; b = g.b; c = t; noise = g.noise; envelope = g.envelope })
    g))

-- one tone changed, and no other; past C there is none
abbrev pub on_tone : ℕ → (Tone → Tone) → Generators → Generators
on_tone n change g = put_tone n (change (tone_at n g)) g

unfoldable pub tones_set : ℕ → ℕ → Bool → Generators → Generators
tones_set n period irq g = on_tone n (tone_set period irq) g

unfoldable pub tones_released : Generators → Generators
tones_released g =
    record {
      a = tone_released (five_bits 0) g.a;
      b = tone_released (five_bits 1) g.b;
      c = tone_released (five_bits 2) g.c;
      noise = g.noise;
      envelope = g.envelope;
    }
