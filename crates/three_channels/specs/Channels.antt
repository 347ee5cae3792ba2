-- Three channels by their number. 01, "Numbers a call can answer" and "Power-on and reset". Assumes nothing.
use Rattle.std.specs.Prelude.{Bool, false, cond, ℕ, ltb, eqb}
use Rattle.channel.specs.declared.Drum.{Drum}
use Rattle.channel.specs.declared.Channel.{Channel}
use Rattle.channel.specs.Channel.{quiet, with_mute, with_drum, channel_reset}
use Rattle.three_channels.specs.declared.Channels.{Channels}

-- channel 0 is A, 1 is B, 2 is C
unfoldable pub channel_at : ℕ → Channels → Channel
channel_at n s = cond (eqb n 0) s.a (cond (eqb n 1) s.b s.c)

unfoldable pub put_channel : ℕ → Channel → Channels → Channels
put_channel n x s =
    cond (eqb n 0) (record { a = x; b = s.b; c = s.c })
    (cond (eqb n 1) (record { a = s.a; b = x; c = s.c })
    (cond (eqb n 2) (record { a = s.a; b = s.b; c = x })
    s))

-- one channel changed, and no other; past C there is none
abbrev pub on_channel : ℕ → (Channel → Channel) → Channels → Channels
on_channel n change s = put_channel n (change (channel_at n s)) s

unfoldable pub set_mute : ℕ → Bool → Channels → Channels
set_mute n muted s = on_channel n (with_mute muted) s

unfoldable pub set_drum : ℕ → Drum → Channels → Channels
set_drum n drum s = on_channel n (with_drum drum) s

-- Asking whether channel 3 or above is muted gives no.
unfoldable pub is_muted : ℕ → Channels → Bool
is_muted n s = cond (ltb n 3) (channel_at n s).muted false

abbrev pub all_quiet : Channels
all_quiet = record { a = quiet; b = quiet; c = quiet }

abbrev pub channels_reset : Channels → Channels
channels_reset s = record { a = channel_reset s.a; b = channel_reset s.b; c = channel_reset s.c }
