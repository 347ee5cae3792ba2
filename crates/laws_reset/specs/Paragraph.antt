-- 01's paragraph "Power-on and reset", sentence by sentence. Assumes nothing.
use Rattle.std.specs.Prelude.{cond, false, [], ◌∷◌, ◌≡◌, ℕ, ◌+◌, ◌*◌, ◌/◌, ◌%◌, ◌^◌, pos}
use Rattle.std.specs.Int.Bits.{bit_and}
use Rattle.refusals.specs.Numbers.{accepted, out_of_range}
use Rattle.drums.specs.Drums.{float}
use Rattle.channel.specs.declared.Channel.{Channel}
use Rattle.channel.specs.declared.Drum.TheVariants.{Off}
use Rattle.three_channels.specs.Channels.{all_quiet}
use Rattle.tone.specs.declared.Tone.{Tone}
use Rattle.power_on.specs.Seed.{seeded, power_on_edges}
use Rattle.generators.specs.declared.Generators.{Generators}
use Rattle.generators.specs.Reset.{generators_new}
use Rattle.gates.specs.Gates.{gates_from}
use Rattle.all_registers.specs.Reset.{zeros}
use Rattle.queue.specs.Waiting.{waiting}
use Rattle.chip.specs.declared.Clocks.{Clocks}
use Rattle.chip.specs.declared.Chip.{Chip}
use Rattle.chip.specs.Range.{chip_in}
use Rattle.chip_parts.specs.Parts.{at_start}
use Rattle.answers.specs.Answers.{answered}
use Rattle.calls_making.specs.Making.{made_of, reset_of, reset_call}

-- a chip's generators
abbrev pub generators_of : Chip → Generators
generators_of c = c.core.voice.generators

-- a tone that is reset, its edges aside
pub record ToneCleared (t : Tone) : Type 0 where
  pub counter : t.counter ≡ 0
  pub period : t.period ≡ 0
  pub pending : t.pending ≡ false

-- a channel before, and after: what reset sets, and what it keeps
pub record ChannelCleared (before after : Channel) : Type 0 where
  pub drum : after.drum ≡ Off
  pub output : after.output ≡ float 0
  pub mute : after.muted ≡ before.muted
  pub amplitude : after.amplitude ≡ before.amplitude

-- a chip c, and the chip r that reset leaves
pub record Paragraph (c r : Chip) : Type 0 where
  -- The seed is 1 times 214,013 plus 2,531,011 modulo 2^32; bits 16 to 30 give 41.
  pub seed : (seeded 1 ≡ (1 * 214013 + 2531011) % 2 ^ 32 / 2 ^ 16 % 2 ^ 15) × (seeded 1 ≡ 41)
  -- Masked by 0x421 and times 0x1f that is 0x3ff: A and B start high, C low.
  pub edges : (bit_and 41 0x421 * 0x1f ≡ 0x3ff) × (power_on_edges ≡ 0x3ff)
  pub high-a : (generators_of r).a.edges ≡ 0x1f
  pub high-b : (generators_of r).b.edges ≡ 0x3e0
  pub low-c : (generators_of r).c.edges ≡ 0
  -- Reset sets tone counters and periods to 0, clears pending flips,
  pub tone-a : ToneCleared (generators_of r).a
  pub tone-b : ToneCleared (generators_of r).b
  pub tone-c : ToneCleared (generators_of r).c
  -- sets noise counter 0, register 1, output 0, half-tick off;
  pub noise-counter : (generators_of r).noise.counter ≡ 0
  pub noise-register : (generators_of r).noise.register ≡ 1
  pub noise-output : (generators_of r).noise.output ≡ 0
  pub half-tick : (generators_of r).noise.half ≡ false
  -- envelope counter, position and shape offset to 0;
  pub envelope-counter : (generators_of r).envelope.counter ≡ 0
  pub position : (generators_of r).envelope.position ≡ pos 0
  pub offset : (generators_of r).envelope.offset ≡ 0
  -- drums off, channel outputs 0.0; it keeps mutes and each channel's last amplitude
  pub channel-a : ChannelCleared c.core.channels.a r.core.channels.a
  pub channel-b : ChannelCleared c.core.channels.b r.core.channels.b
  pub channel-c : ChannelCleared c.core.channels.c r.core.channels.c
  -- registers 0 and then 0x3F to R7;
  pub registers : r.core.voice.registers ≡ 0 ∷ 0 ∷ 0 ∷ 0 ∷ 0 ∷ 0 ∷ 0 ∷ 0x3f ∷ 0 ∷ 0 ∷ 0 ∷ 0 ∷ 0 ∷ 0 ∷ []
  pub gates : r.core.voice.gates ≡ gates_from 0x3f
  -- selection, accumulator, stamp, the next word's start and IRQ flag to 0;
  pub selection : r.core.selected ≡ 0
  pub accumulator : r.core.accumulator ≡ 0
  pub stamp : r.core.stamp ≡ 0
  pub start : r.core.start ≡ 0
  pub irq : r.core.voice.irq ≡ false
  -- queue empty.
  pub queue : waiting r.queue ≡ []
  -- It keeps noise period, envelope period; the clocks, of which it does not speak, stay too
  pub noise-period : (generators_of r).noise.period ≡ (generators_of c).noise.period
  pub envelope-period : (generators_of r).envelope.period ≡ (generators_of c).envelope.period
  pub clocks : r.core.clocks ≡ c.core.clocks
  -- 02, request 05: "Reset keeps the variant."
  pub variant : r.core.variant ≡ c.core.variant

pub record Resets : Type 0 where
  -- Of every chip, and what the call answers for it: 22 first.
  pub paragraph : (c : Chip) → Paragraph c (reset_of c)
  pub call : (c : Chip) → reset_call c ≡ cond (chip_in c) (answered accepted (reset_of c)) (answered out_of_range c)
  -- A new chip is a reset one, of zeros and quiet channels.
  pub new : (k : Clocks) (variant : ℕ) → made_of k variant ≡ reset_of (at_start k variant (zeros generators_new) all_quiet)
