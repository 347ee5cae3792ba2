-- What the table's cases are said in: a chip some ticks on, and the chips that its lines speak of. Assumes nothing.
use Rattle.std.specs.Prelude.{true, ℕ, zero, suc, Float}
use Rattle.envelope.specs.declared.Envelope.{Envelope}
use Rattle.generators.specs.declared.Generators.{Generators}
use Rattle.generators.specs.Generators.{tick}
use Rattle.channel.specs.declared.Drum.TheVariants.{Sample}
use Rattle.chip.specs.declared.Chip.{Chip}
use Rattle.calls_making.specs.Making.{fresh, with_clocks, reset_call}
use Rattle.calls_registers.specs.Stored.{write_register}
use Rattle.calls_channels.specs.ChannelCalls.{set_channel_mute, set_drum_sample_override}
use Rattle.calls_words.specs.Blocks.{blocked}

-- generators after n ticks
unfoldable pub ticks : ℕ → Generators → Generators
ticks zero g = g
ticks (suc n) g = ticks n (tick g)

-- the noise register, and the envelope, of a chip whose generators go n ticks on
abbrev pub noise_after : ℕ → Chip → ℕ
noise_after n c = (ticks n c.core.voice.generators).noise.register

abbrev pub envelope_after : ℕ → Chip → Envelope
envelope_after n c = (ticks n c.core.voice.generators).envelope

-- the ticks of the word that comes after n words
abbrev pub ticks_after : ℕ → Chip → ℕ
ticks_after n c = (blocked 1 (blocked n c).chip).answer.ticks

-- a chip of the clocks that were the default ones before 02's request 07
unfoldable pub at44100 : Chip
at44100 = (with_clocks 2000000 44100).chip

-- a fresh chip after R13 = 8; its envelope steps at every tick
unfoldable pub shape8 : Chip
shape8 = (write_register 13 8 fresh).chip

-- a fresh chip with a drum for A, and B and C muted: its words are A's output
unfoldable pub drum_alone : Float → Chip
drum_alone s = (set_drum_sample_override 0 (Sample s) (set_channel_mute 1 true (set_channel_mute 2 true fresh).chip).chip).chip

-- R6 = 31, reset
unfoldable pub reset_after31 : Chip
reset_after31 = (reset_call (write_register 6 31 fresh).chip).chip
