-- A chip with one part changed; the pages above write no record of it out again. 01, "Power-on and reset", "Registers and ports" and
-- "One tick, one word". Assumes nothing.
use Rattle.std.specs.Prelude.{ℕ}
use Rattle.three_channels.specs.declared.Channels.{Channels}
use Rattle.registers.specs.declared.Voice.{Voice}
use Rattle.queue.specs.declared.Queue.{Queue}
use Rattle.queue.specs.Waiting.{empty}
use Rattle.chip.specs.declared.Clocks.{Clocks}
use Rattle.chip.specs.declared.Core.{Core}
use Rattle.chip.specs.declared.Chip.{Chip}

-- Selection, accumulator, stamp and the next word's start at 0, and the queue empty: so a chip is made, and so reset leaves it.
abbrev pub at_start : Clocks → ℕ → Voice → Channels → Chip
at_start clocks variant voice channels =
    record {
      core = record {
        clocks = clocks;
        voice = voice;
        channels = channels;
        selected = 0;
        variant = variant;
        accumulator = 0;
        stamp = 0;
        start = 0;
      };
      queue = empty;
    }

-- the registers, generators, gates and IRQ flag of a chip
abbrev pub voice_of : Chip → Voice
voice_of c = c.core.voice

abbrev pub with_core : Core → Chip → Chip
with_core core c = record { core = core; queue = c.queue }

abbrev pub with_queue : Queue → Chip → Chip
with_queue q c = record { core = c.core; queue = q }

abbrev pub with_voice : Voice → Chip → Chip
with_voice v c =
    let k = c.core in
    with_core (record {
      clocks = k.clocks;
      voice = v;
      channels = k.channels;
      selected = k.selected;
      variant = k.variant;
      accumulator = k.accumulator;
      stamp = k.stamp;
      start = k.start;
    }) c

abbrev pub on_voice : (Voice → Voice) → Chip → Chip
on_voice step c = with_voice (step (voice_of c)) c

abbrev pub with_channels : Channels → Chip → Chip
with_channels channels c =
    let k = c.core in
    with_core (record {
      clocks = k.clocks;
      voice = k.voice;
      channels = channels;
      selected = k.selected;
      variant = k.variant;
      accumulator = k.accumulator;
      stamp = k.stamp;
      start = k.start;
    }) c

abbrev pub with_selection : ℕ → Chip → Chip
with_selection selected c =
    let k = c.core in
    with_core (record {
      clocks = k.clocks;
      voice = k.voice;
      channels = k.channels;
      selected = selected;
      variant = k.variant;
      accumulator = k.accumulator;
      stamp = k.stamp;
      start = k.start;
    }) c

abbrev pub with_times : ℕ → ℕ → Chip → Chip
with_times stamp start c =
    let k = c.core in
    with_core (record {
      clocks = k.clocks;
      voice = k.voice;
      channels = k.channels;
      selected = k.selected;
      variant = k.variant;
      accumulator = k.accumulator;
      stamp = stamp;
      start = start;
    }) c

-- After a word: its voice, accumulator and channels, and the next word's start.
abbrev pub after_ticks : Voice → ℕ → Channels → ℕ → Core → Core
after_ticks voice accumulator channels start k =
    record {
      clocks = k.clocks;
      voice = voice;
      channels = channels;
      selected = k.selected;
      variant = k.variant;
      accumulator = accumulator;
      stamp = k.stamp;
      start = start;
    }
