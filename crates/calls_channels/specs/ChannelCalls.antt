-- Mutes, drums and last outputs. 01, "Numbers a call can answer" and "One tick, one word". Assumes nothing.
use Rattle.std.specs.Prelude.{ℕ, leb, Bool, cond, false}
use Rattle.answers.specs.Answers.{answered, unless22}
use Rattle.chip_parts.specs.Parts.{with_channels}
use Rattle.answers.specs.declared.Answered.{Answered}
use Rattle.answers.specs.declared.Flag.{Flag}
use Rattle.answers.specs.declared.Outputs.{Outputs}
use Rattle.chip.specs.declared.Chip.{Chip}
use Rattle.drums.specs.Drums.{float}
use Rattle.three_channels.specs.Channels.{is_muted, set_drum, set_mute}
use Rattle.three_channels.specs.declared.Channels.{Channels}
use Rattle.channel.specs.declared.Drum.{Drum}
use Rattle.chip.specs.Range.{chip_in}
use Rattle.refusals.specs.Numbers.{accepted, no_such_channel, out_of_range}
use Rattle.steps_channels.specs.declared.Three.{Three}

-- mute or drum for channel 3 or above: nothing changes
abbrev pub for_channel : ℕ → Channels → Chip → Answered
for_channel channel channels c = unless22 c (cond (leb 3 channel) (answered no_such_channel c) (answered accepted (with_channels channels c)))

unfoldable pub set_channel_mute : ℕ → Bool → Chip → Answered
set_channel_mute channel muted c = for_channel channel (set_mute channel muted c.core.channels) c

unfoldable pub set_drum_sample_override : ℕ → Drum → Chip → Answered
set_drum_sample_override channel drum c = for_channel channel (set_drum channel drum c.core.channels) c

-- Asking whether channel 3 or above is muted gives no.
unfoldable pub is_channel_muted : ℕ → Chip → Flag
is_channel_muted channel c =
    cond (chip_in c) (record { no = accepted; yes = is_muted channel c.core.channels }) (record { no = out_of_range; yes = false })

-- each channel's last output
unfoldable pub get_channel_outputs : Chip → Outputs
get_channel_outputs c =
    let s = c.core.channels in
    cond (chip_in c) (record { no = accepted; a = s.a.output; b = s.b.output; c = s.c.output })
    (record { no = out_of_range; a = float 0; b = float 0; c = float 0 })

abbrev pub mutes_of : Channels → Three Bool
mutes_of s = record { a = s.a.muted; b = s.b.muted; c = s.c.muted }
