-- The bound of a word, for a caller's proof to lean on. 01, "One tick, one word". Assumes nothing.
use mathlib.Core.Bool.{Bool}
use mathlib.Core.List.{List}
use Prim.Native.Nat.{ℕ, ◌+◌, ◌/◌, ◌≤◌, ◌<◌}
use native.Mathlib.Omega.{arith}
use Rattle.channel.proofs.Laws.{sounded-le}
use Rattle.three_channels.specs.declared.Channels.{Channels}
use Rattle.mixer.specs.Mix.{mixed}

-- a channel gives at most 10922, and a word at most three times that
pub mixed-le : (variant : ℕ) (s : Channels) (volumes : List ℕ) (halves : List Bool) (envelope gate : ℕ) → envelope < 32 → (mixed variant s volumes halves envelope gate).word ≤ 32766
unfolding mixed
mixed-le a s v half e g h = sum (sounded-le a s.a _ _ e g h) (sounded-le a s.b _ _ e (g / 32) h) (sounded-le a s.c _ _ e (g / 1024) h)
  where
    sum : {a b c : ℕ} → a ≤ 10922 → b ≤ 10922 → c ≤ 10922 → a + b + c ≤ 32766
    sum p q r = omega arith
