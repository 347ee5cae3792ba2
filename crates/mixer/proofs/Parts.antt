-- The word of three parts: none is above 10922, so their sum fits a `u16`, and it is the rule's. 01, "One tick, one word". Assumes nothing.
use mathlib.Core.Path.{◌≡◌}
use mathlib.Core.Bool.{Bool, false}
use mathlib.Core.List.{List}
use Prim.Native.Nat.{ℕ, ◌+◌, ◌/◌, ◌≤◌, ◌<◌}
use native.Mathlib.Omega.{arith}
use lib.ListN.{get_or}
use Rattle.channel.specs.declared.Channel.{Channel}
use Rattle.channel.specs.declared.Heard.{Heard}
use Rattle.channel.specs.Channel.{sounded}
use Rattle.channel.proofs.Laws.{sounded-le}
use Rattle.three_channels.specs.declared.Channels.{Channels}
use Rattle.mixer.specs.Mix.{summed, mixed}

-- a part of a word, known to be the rule's, is at most 10922
pub part-le : (r : Heard) (variant : ℕ) (c : Channel) (volume : ℕ) (half : Bool) (envelope gate : ℕ) → r ≡ sounded variant c volume half envelope gate → envelope < 32 → r.out ≤ 10922
part-le r a c v half e g p h = rw p (sounded-le a c v half e g h)

-- so two parts fit a `u16`, and three do
pub two-fit : (a b : ℕ) → a ≤ 10922 → b ≤ 10922 → a + b < 65536
two-fit a b p q = omega arith

pub three-fit : (a b c : ℕ) → a ≤ 10922 → b ≤ 10922 → c ≤ 10922 → a + b + c < 65536
three-fit a b c p q r = omega arith

-- three parts, each known to be the rule's, make the rule's word and channels
pub parts-mixed : (x y z : Heard) (variant : ℕ) (s : Channels) (volumes : List ℕ) (halves : List Bool) (envelope gate : ℕ)
    → x ≡ sounded variant s.a (get_or volumes 0 0) (get_or halves 0 false) envelope gate
    → y ≡ sounded variant s.b (get_or volumes 1 0) (get_or halves 1 false) envelope (gate / 32)
    → z ≡ sounded variant s.c (get_or volumes 2 0) (get_or halves 2 false) envelope (gate / 1024)
    → summed x y z ≡ mixed variant s volumes halves envelope gate
unfolding mixed
parts-mixed x y z a s v half e g p q r = λ i. summed (p i) (q i) (r i)
