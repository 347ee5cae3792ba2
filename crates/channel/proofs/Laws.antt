-- Bounds of a channel's rules, for a caller's proof to lean on. 01, "One tick, one word". Assumes nothing.
use mathlib.Core.Bool.{Bool}
use Prim.Native.Nat.{ℕ, ◌≤◌, ◌<◌, zero-le}
use Rattle.laws.proofs.Tests.{by_cond}
use Rattle.levels.specs.Levels.{level_used, gated_level}
use Rattle.levels.proofs.Laws.{used-lt, gated-lt, loudness-le}
use Rattle.drums.proofs.Laws.{drum-le}
use Rattle.channel.specs.declared.Drum.{Drum}
use Rattle.channel.specs.declared.Drum.TheVariants.{Off, Sample}
use Rattle.channel.specs.declared.Channel.{Channel}
use Rattle.channel.specs.Channel.{heard, heard_by, heard_muted, sounded}

-- a channel gives at most 10922
pub heard-le : (c : Channel) (gated ungated : ℕ) (half : Bool) → gated < 32 → (heard c gated ungated half).out ≤ 10922
unfolding heard
heard-le c g u half h = by_cond (λ r. r.out ≤ 10922) c.muted (heard_muted c) (heard_by c.drum c g u half) (λ _. zero-le) (λ _. by-drum c.drum)
  where
    by-drum : (d : Drum) → (heard_by d c g u half).out ≤ 10922
    by-drum (Sample s) = drum-le s
    by-drum Off = loudness-le half g h

-- also by its volume, the envelope and the gate
pub sounded-le : (variant : ℕ) (c : Channel) (volume : ℕ) (half : Bool) (envelope gate : ℕ) → envelope < 32
    → (sounded variant c volume half envelope gate).out ≤ 10922
unfolding sounded
sounded-le a c v half e g h = let u = level_used a v e in heard-le c (gated_level u g) u half (gated-lt u g (used-lt a v e h))
