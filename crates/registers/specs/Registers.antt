-- What a register write does. 01, "Registers and ports". Assumes nothing.
use Rattle.std.specs.Prelude.{cond, List, ℕ, ◌+◌, ◌*◌, ◌/◌, leb, eqb, get_or, set}
use Rattle.std.specs.Int.Bits.{bit_and}
use Rattle.tables.specs.Masks.{register_mask}
use Rattle.noise.specs.declared.Noise.{Noise}
use Rattle.envelope.specs.declared.Envelope.{Envelope}
use Rattle.generators.specs.declared.Generators.{Generators}
use Rattle.noise.specs.Noise.{noise_set}
use Rattle.envelope.specs.Envelope.{envelope_set, shaped}
use Rattle.generators.specs.Generators.{tones_set}
use Rattle.gates.specs.declared.Gates.{Gates}
use Rattle.gates.specs.Gates.{gates_from}
use Rattle.registers.specs.declared.Voice.{Voice}

-- a stored byte
abbrev pub byte_at : ℕ → Voice → ℕ
byte_at register v = get_or v.registers register 0

-- a period in two registers, the low byte first
abbrev pub pair_in : ℕ → List ℕ → ℕ
pair_in low bytes = get_or bytes low 0 + 256 * get_or bytes (low + 1) 0

unfoldable pub pair_at : ℕ → Voice → ℕ
pair_at low v = pair_in low v.registers

abbrev pub with_generators : Generators → Voice → Voice
with_generators g v = record { registers = v.registers; generators = g; gates = v.gates; irq = v.irq }

abbrev pub with_noise : Noise → Voice → Voice
with_noise n v =
    let g = v.generators in
    with_generators (record { a = g.a; b = g.b; c = g.c; noise = n; envelope = g.envelope }) v

abbrev pub with_envelope : Envelope → Voice → Voice
with_envelope e v =
    let g = v.generators in
    with_generators (record { a = g.a; b = g.b; c = g.c; noise = g.noise; envelope = e }) v

abbrev pub with_gates : Gates → Voice → Voice
with_gates gates v = record { registers = v.registers; generators = v.generators; gates = gates; irq = v.irq }

-- 0..5 set that channel's 12-bit period, and mark a pending flip if the period is now at most 1 and the IRQ flag is on.
unfoldable pub tone_period_set : ℕ → Voice → Voice
tone_period_set channel v = with_generators (tones_set channel (pair_at (channel * 2) v) v.irq v.generators) v

-- 6 sets the noise period,
unfoldable pub noise_period_set : Voice → Voice
noise_period_set v = with_noise (noise_set (byte_at 6 v) v.generators.noise) v

-- 7 the gates,
unfoldable pub gates_set : Voice → Voice
gates_set v = with_gates (gates_from (byte_at 7 v)) v

-- 11 and 12 the envelope period,
unfoldable pub envelope_period_set : Voice → Voice
envelope_period_set v = with_envelope (envelope_set (pair_at 11 v) v.generators.envelope) v

-- 13 picks the shape and restarts at -64 with counter 0, even for the same byte.
unfoldable pub shape_set : Voice → Voice
shape_set v = with_envelope (shaped (byte_at 13 v) v.generators.envelope) v

-- What a register write does is decided by its number. 8..10 only store.
unfoldable pub voice_set : ℕ → Voice → Voice
voice_set register v =
    cond (leb register 5) (tone_period_set (register / 2) v)
    (cond (eqb register 6) (noise_period_set v)
    (cond (eqb register 7) (gates_set v)
    (cond (eqb register 11) (envelope_period_set v)
    (cond (eqb register 12) (envelope_period_set v)
    (cond (eqb register 13) (shape_set v)
    v)))))

-- the byte is masked and stored
unfoldable pub masked : ℕ → ℕ → ℕ
masked register value = bit_and value (register_mask register)

abbrev pub stored : ℕ → ℕ → Voice → Voice
stored register value v =
    record { registers = set v.registers register (masked register value); generators = v.generators; gates = v.gates; irq = v.irq }

-- Writes to registers 14 and up change nothing.
unfoldable pub apply_register : ℕ → ℕ → Voice → Voice
apply_register register value v = cond (leb 14 register) v (voice_set register (stored register value v))
