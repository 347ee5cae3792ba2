-- What a channel gives and keeps. 01, "One tick, one word"; reset by "Power-on and reset". Assumes nothing.
use Rattle.std.specs.Prelude.{Bool, false, cond, ℕ, eqb, Float}
use Rattle.std.specs.Float.{binary32}
use Rattle.std.specs.Float.Ieee.{sub, neg}
use Rattle.channel.specs.declared.Drum.{Drum}
use Rattle.channel.specs.declared.Drum.TheVariants.{Off, Sample}
use Rattle.channel.specs.declared.Channel.{Channel}
use Rattle.channel.specs.declared.Heard.{Heard}
use Rattle.drums.specs.Drums.{float, quotient, times, drum_out}
use Rattle.levels.specs.Levels.{level_used, gated_level, loudness_of}

-- the channel after a word: its mute and drum as they were, its last output and last amplitude
abbrev pub left : Channel → Float → Float → Channel
left c output amplitude = record { muted = c.muted; drum = c.drum; output = output; amplitude = amplitude }

-- Mute gives 0; muted 0.0 and 0.0
abbrev pub heard_muted : Channel → Heard
heard_muted c = record { out = 0; channel = left c (float 0) (float 0) }

-- drum (out / 10922) × 2 - 1 and 1.0
abbrev pub heard_sample : Float → Channel → Heard
heard_sample s c =
    let out = drum_out s in
    record { out = out; channel = left c (sub binary32 (times (quotient (float out) (float 10922)) (float 2)) (float 1)) (float 1) }

-- amplitude is the ungated index's level, halved as above, / 10922
abbrev pub amplitude_of : ℕ → Bool → Float
amplitude_of ungated half = quotient (float (loudness_of half ungated)) (float 10922)

-- output is plus it where gated and ungated levels agree, minus it otherwise, 0.0 if the ungated index is 0
abbrev pub output_of : ℕ → ℕ → Float → Float
output_of gated ungated amplitude = cond (eqb ungated 0) (float 0) (cond (eqb gated ungated) amplitude (neg amplitude))

abbrev pub heard_level : ℕ → ℕ → Bool → Channel → Heard
heard_level gated ungated half c =
    let amplitude = amplitude_of ungated half in
    record { out = loudness_of half gated; channel = left c (output_of gated ungated amplitude) amplitude }

abbrev pub heard_by : Drum → Channel → ℕ → ℕ → Bool → Heard
heard_by (Sample s) c gated ungated half = heard_sample s c
heard_by Off c gated ungated half = heard_level gated ungated half c

unfoldable pub heard : Channel → ℕ → ℕ → Bool → Heard
heard c gated ungated half = cond c.muted (heard_muted c) (heard_by c.drum c gated ungated half)

-- one channel's output: its level, AND-ed with the gate
unfoldable pub sounded : ℕ → Channel → ℕ → Bool → ℕ → ℕ → Heard
sounded variant c volume half envelope gate =
    let ungated = level_used variant volume envelope in
    heard c (gated_level ungated gate) ungated half

-- a new channel
abbrev pub quiet : Channel
quiet = record { muted = false; drum = Off; output = float 0; amplitude = float 0 }

abbrev pub with_mute : Bool → Channel → Channel
with_mute muted c = record { muted = muted; drum = c.drum; output = c.output; amplitude = c.amplitude }

abbrev pub with_drum : Drum → Channel → Channel
with_drum drum c = record { muted = c.muted; drum = drum; output = c.output; amplitude = c.amplitude }

-- drums off, channel outputs 0.0; it keeps mutes and each channel's last amplitude
abbrev pub channel_reset : Channel → Channel
channel_reset c = record { muted = c.muted; drum = Off; output = float 0; amplitude = c.amplitude }
