-- The test of a voice, a part of the test that answers 22. 01, "What changes shape".
-- Counters and the envelope's period are of 16 bits: their type holds them to 65,535. Assumes nothing.
use Rattle.std.specs.Prelude.{Bool, true, false, cond, List, [], ◌∷◌, ℕ, ◌%◌, leb, eqb, pos, get_or}
use Rattle.std.specs.Int.Bits.{bit_and}
use Rattle.std.specs.Int.Signed.{le_z}
use Rattle.laws.specs.All.{holds, below}
use Rattle.tables.specs.Masks.{register_mask, five_bits}
use Rattle.tone.specs.declared.Tone.{Tone}
use Rattle.noise.specs.declared.Noise.{Noise}
use Rattle.envelope.specs.declared.Envelope.{Envelope}
use Rattle.generators.specs.declared.Generators.{Generators}
use Rattle.envelope.specs.Envelope.{restart_position}
use Rattle.gates.specs.declared.Gates.{Gates}
use Rattle.registers.specs.declared.Voice.{Voice}

-- stored bytes within masks,
unfoldable pub bytes_in : List ℕ → Bool
bytes_in bytes = below 14 (λ register. leb (get_or bytes register 0) (register_mask register))

-- tone periods to 4,095, each channel's edges within its five bits,
unfoldable pub tone_in : ℕ → Tone → Bool
tone_in bits t = holds (leb t.period 4095 ∷ eqb (bit_and t.edges bits) t.edges ∷ [])

-- noise period to 31, noise register 1..131,071, output all or none,
unfoldable pub all_or_none : ℕ → Bool
all_or_none output = cond (eqb output 0) true (cond (eqb output 0xffff_ffff) true false)

unfoldable pub noise_in : Noise → Bool
noise_in n =
    holds (
    leb n.period 31
    ∷ leb 1 n.register
    ∷ leb n.register 131071
    ∷ all_or_none n.output
    ∷ []
    )

-- position -64..63, a real shape offset,
unfoldable pub envelope_in : Envelope → Bool
envelope_in e =
    holds (le_z restart_position e.position ∷ le_z e.position (pos 63) ∷ eqb (e.offset % 128) 0 ∷ leb e.offset 1152 ∷ [])

unfoldable pub generators_in : Generators → Bool
generators_in g =
    holds (
    tone_in (five_bits 0) g.a
    ∷ tone_in (five_bits 1) g.b
    ∷ tone_in (five_bits 2) g.c
    ∷ noise_in g.noise
    ∷ envelope_in g.envelope
    ∷ []
    )

-- gate masks to 0x7fff,
unfoldable pub gates_in : Gates → Bool
gates_in gates = holds (leb gates.tone 0x7fff ∷ leb gates.noise 0x7fff ∷ [])

unfoldable pub voice_in : Voice → Bool
voice_in v = holds (bytes_in v.registers ∷ generators_in v.generators ∷ gates_in v.gates ∷ [])
