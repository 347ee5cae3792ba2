-- What many writes set, set once after the last. 01, "Registers and ports". Assumes nothing.
--
-- What a register sets is read from the stored bytes. So while the IRQ flag is off, when no write marks a pending flip, it is enough to set it
-- once, from the bytes that the last write left: each register that is written gets a mark, and what has a mark is set.
use Rattle.std.specs.Prelude.{Bool, cond, List, ℕ, ◌+◌, ◌^◌, get_or}
use Rattle.tone.specs.declared.Tone.{Tone}
use Rattle.noise.specs.Noise.{noise_set}
use Rattle.envelope.specs.declared.Envelope.{Envelope}
use Rattle.envelope.specs.Envelope.{envelope_set, shaped}
use Rattle.generators.specs.declared.Generators.{Generators}
use Rattle.gates.specs.declared.Gates.{Gates}
use Rattle.gates.specs.Gates.{gates_from}
use Rattle.registers.specs.declared.Voice.{Voice}
use Rattle.registers.specs.Registers.{pair_in}
use Rattle.stored_bytes.specs.Marks.{unwritten}
use Rattle.settling.specs.declared.Pitch.{Pitch}
use Rattle.settling.specs.declared.Settings.{Settings}

abbrev pub pitch_of : Tone → Pitch
pitch_of t = record { period = t.period; pending = t.pending }

-- what register writes set of the generators, and the gates
abbrev pub settings_of : Generators → Gates → Settings
settings_of g gates =
    record { a = pitch_of g.a; b = pitch_of g.b; c = pitch_of g.c; noise = g.noise.period; envelope = g.envelope; gates = gates }

-- 0..5 set that channel's 12-bit period,
abbrev pub pitch_after : Bool → ℕ → Pitch → Pitch
pitch_after none period p = record { period = cond none p.period period; pending = p.pending }

-- 7 the gates,
abbrev pub gates_after : Bool → ℕ → Gates → Gates
gates_after none byte gates = cond none gates (gates_from byte)

-- 11 and 12 the envelope period,
abbrev pub envelope_period_after : Bool → ℕ → Envelope → Envelope
envelope_period_after none period e = envelope_set (cond none e.period period) e

-- 13 picks the shape and restarts at -64 with counter 0; many such writes restart as the last one does.
abbrev pub shape_after : Bool → ℕ → Envelope → Envelope
shape_after none byte e = cond none e (shaped byte e)

-- 6 sets the noise period. 8..10 only store: their marks set nothing.
unfoldable pub settled_of : List ℕ → ℕ → Settings → Settings
settled_of bytes marks s =
    record {
      a = pitch_after (unwritten (2 ^ 0 + 2 ^ 1) marks) (pair_in 0 bytes) s.a;
      b = pitch_after (unwritten (2 ^ 2 + 2 ^ 3) marks) (pair_in 2 bytes) s.b;
      c = pitch_after (unwritten (2 ^ 4 + 2 ^ 5) marks) (pair_in 4 bytes) s.c;
      noise = cond (unwritten (2 ^ 6) marks) s.noise (get_or bytes 6 0);
      gates = gates_after (unwritten (2 ^ 7) marks) (get_or bytes 7 0) s.gates;
      envelope =
          shape_after (unwritten (2 ^ 13) marks) (get_or bytes 13 0)
          (envelope_period_after (unwritten (2 ^ 11 + 2 ^ 12) marks) (pair_in 11 bytes) s.envelope);
    }

abbrev pub with_pitch : Pitch → Tone → Tone
with_pitch p t = record { counter = t.counter; period = p.period; edges = t.edges; pending = p.pending }

unfoldable pub generators_with : Settings → Generators → Generators
generators_with s g =
    record {
      a = with_pitch s.a g.a;
      b = with_pitch s.b g.b;
      c = with_pitch s.c g.c;
      noise = noise_set s.noise g.noise;
      envelope = s.envelope;
    }

-- a voice with other stored bytes and settings; all else of it stays
unfoldable pub with_settings : List ℕ → Settings → Voice → Voice
with_settings bytes s v = record { registers = bytes; generators = generators_with s v.generators; gates = s.gates; irq = v.irq }
