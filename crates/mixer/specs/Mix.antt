-- The word of three channels. 01, "One tick, one word". Assumes nothing.
use Rattle.std.specs.Prelude.{Bool, false, List, ℕ, ◌+◌, ◌/◌, get_or}
use Rattle.channel.specs.declared.Heard.{Heard}
use Rattle.channel.specs.Channel.{sounded}
use Rattle.three_channels.specs.declared.Channels.{Channels}
use Rattle.mixer.specs.declared.Mixed.{Mixed}

abbrev pub summed : Heard → Heard → Heard → Mixed
summed a b c = record { word = a.out + b.out + c.out; channels = record { a = a.channel; b = b.channel; c = c.channel } }

-- The word is the sum of three channel outputs. The gate has five bits for each channel, A's at the bottom.
unfoldable pub mixed : ℕ → Channels → List ℕ → List Bool → ℕ → ℕ → Mixed
mixed variant s volumes halves envelope gate =
    summed (sounded variant s.a (get_or volumes 0 0) (get_or halves 0 false) envelope gate)
    (sounded variant s.b (get_or volumes 1 0) (get_or halves 1 false) envelope (gate / 32))
    (sounded variant s.c (get_or volumes 2 0) (get_or halves 2 false) envelope (gate / 1024))
