-- The paragraph holds of every chip: each line comes out by computing. Assumes nothing.
use mathlib.Core.Path.{refl}
use Prim.Native.Nat.{ℕ}
use Rattle.channel.specs.declared.Channel.{Channel}
use Rattle.channel.specs.Channel.{channel_reset}
use Rattle.tone.specs.Tone.{tone_reset}
use Rattle.power_on.specs.Seed.{power_on_edges}
use Rattle.generators.specs.Reset.{generators_reset}
use Rattle.gates.specs.Gates.{gates_from}
use Rattle.registers.specs.Registers.{gates_set, voice_set, masked, apply_register}
use Rattle.all_registers.specs.Reset.{voice_reset}
use Rattle.queue.specs.Waiting.{writes_from, waiting}
use Rattle.chip.specs.declared.Chip.{Chip}
use Rattle.calls_making.specs.Making.{made_of, reset_of, reset_call}
use Rattle.laws_reset.specs.Paragraph.{ToneCleared, ChannelCleared, Paragraph, Resets}

tone : (edges : ℕ) → ToneCleared (tone_reset edges)
tone edges = record { counter = refl; period = refl; pending = refl }

channel : (x : Channel) → ChannelCleared x (channel_reset x)
channel x = record { drum = refl; output = refl; mute = refl; amplitude = refl }

paragraph : (c : Chip) → Paragraph c (reset_of c)
unfolding power_on_edges generators_reset gates_from gates_set voice_set masked apply_register voice_reset writes_from waiting reset_of
paragraph c =
    record {
      seed = (refl, refl);
      edges = (refl, refl);
      high-a = refl;
      high-b = refl;
      low-c = refl;
      tone-a = tone _;
      tone-b = tone _;
      tone-c = tone _;
      noise-counter = refl;
      noise-register = refl;
      noise-output = refl;
      half-tick = refl;
      envelope-counter = refl;
      position = refl;
      offset = refl;
      channel-a = channel _;
      channel-b = channel _;
      channel-c = channel _;
      registers = refl;
      gates = refl;
      selection = refl;
      accumulator = refl;
      stamp = refl;
      start = refl;
      irq = refl;
      queue = refl;
      noise-period = refl;
      envelope-period = refl;
      clocks = refl;
      variant = refl;
    }

pub resets : Resets
unfolding made_of reset_of reset_call
resets = record { paragraph = paragraph; call = λ c. refl; new = λ k variant. refl }
