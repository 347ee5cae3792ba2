-- The record that a C or Rust host owns, and the chip that it holds. 01, "What changes shape". Assumes nothing.
use Rattle.std.specs.Prelude.{cond, false, true}
use Rattle.channel.specs.declared.Channel.{Channel}
use Rattle.channel.specs.declared.Drum.{Drum}
use Rattle.channel.specs.declared.Drum.TheVariants.{Off, Sample}
use Rattle.chip.specs.declared.Chip.{Chip}
use Rattle.chip.specs.declared.Core.{Core}
use Rattle.c_record.specs.declared.Record.{Record}
use Rattle.c_record.specs.declared.RecordChannel.{RecordChannel}
use Rattle.c_record.specs.declared.RecordCore.{RecordCore}
use Rattle.c_record.specs.declared.RecordDrum.{RecordDrum}
use Rattle.drums.specs.Drums.{float}

-- A channel's drum is either off or a sample level in f32.
unfoldable pub drum_of : RecordDrum → Drum
drum_of d = cond d.on (Sample d.sample) Off

unfoldable pub record_drum : Drum → RecordDrum
record_drum Off = record { on = false; sample = float 0 }
record_drum (Sample s) = record { on = true; sample = s }

abbrev pub channel_of : RecordChannel → Channel
channel_of c = record { muted = c.muted; drum = drum_of c.drum; output = c.output; amplitude = c.amplitude }

abbrev pub record_channel : Channel → RecordChannel
record_channel c = record { muted = c.muted; drum = record_drum c.drum; output = c.output; amplitude = c.amplitude }

unfoldable pub core_of : RecordCore → Core
core_of k =
    record {
      clocks = k.clocks;
      voice = k.voice;
      channels = record { a = channel_of k.a; b = channel_of k.b; c = channel_of k.c };
      selected = k.selected;
      variant = k.variant;
      accumulator = k.accumulator;
      stamp = k.stamp;
      start = k.start;
    }

unfoldable pub record_core : Core → RecordCore
record_core k =
    record {
      clocks = k.clocks;
      voice = k.voice;
      a = record_channel k.channels.a;
      b = record_channel k.channels.b;
      c = record_channel k.channels.c;
      selected = k.selected;
      variant = k.variant;
      accumulator = k.accumulator;
      stamp = k.stamp;
      start = k.start;
    }

-- the chip that a record holds, and the record that holds a chip
abbrev pub chip_of : Record → Chip
chip_of x = record { core = core_of x.core; queue = x.queue }

abbrev pub record_of : Chip → Record
record_of c = record { core = record_core c.core; queue = c.queue }
