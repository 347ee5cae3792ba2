-- A word reads the channels before it only by mute and drum, which every word leaves: so after any word the next one is as from the start.
-- 01, "One tick, one word". Assumes nothing.
use mathlib.Core.Path.{◌≡◌, refl, ap}
use mathlib.Core.Bool.{Bool, false, cond}
use mathlib.Core.List.{List}
use Prim.Native.Nat.{ℕ, ◌/◌}
use lib.ListN.{get_or}
use Rattle.channel.specs.declared.Drum.{Drum}
use Rattle.channel.specs.declared.Drum.TheVariants.{Off, Sample}
use Rattle.channel.specs.declared.Channel.{Channel}
use Rattle.channel.specs.declared.Heard.{Heard}
use Rattle.channel.specs.Channel.{heard, heard_by, heard_muted, left, sounded}
use Rattle.three_channels.specs.declared.Channels.{Channels}
use Rattle.mixer.specs.Mix.{summed, mixed}
use Rattle.laws.proofs.Tests.{by_cond}

-- what a channel keeps of a word is its mute and drum, with another output and amplitude
record Keeps (c d : Channel) : Type 0 where
  muted : d.muted ≡ c.muted
  drum : d.drum ≡ c.drum

heard-keeps : (c : Channel) (gated ungated : ℕ) (half : Bool) → Keeps c (heard c gated ungated half).channel
unfolding heard
heard-keeps c gated ungated half =
    by_cond (λ (r : Heard). Keeps c r.channel) c.muted _ _ (λ _. record { muted = refl; drum = refl }) (λ _. by-drum c.drum)
  where
    by-drum : (d : Drum) → Keeps c (heard_by d c gated ungated half).channel
    by-drum (Sample s) = record { muted = refl; drum = refl }
    by-drum Off = record { muted = refl; drum = refl }

-- channels of one mute and one drum give one answer
heard-alike : (c d : Channel) (gated ungated : ℕ) (half : Bool) → Keeps c d → heard d gated ungated half ≡ heard c gated ungated half
unfolding heard
heard-alike c d gated ungated half k = rw (k.muted, k.drum) (ap (λ (r : Heard). cond c.muted (heard_muted c) r) (by-drum c.drum))
  where
    by-drum : (x : Drum) → heard_by x (left c d.output d.amplitude) gated ungated half ≡ heard_by x c gated ungated half
    by-drum (Sample s) = refl
    by-drum Off = refl

sounded-again : (variant : ℕ) (c : Channel) (v v' : ℕ) (half half' : Bool) (e e' g g' : ℕ) → sounded variant (sounded variant c v half e g).channel v' half' e' g' ≡ sounded variant c v' half' e' g'
unfolding sounded
sounded-again a c v v' half half' e e' g g' = heard-alike c _ _ _ half' (heard-keeps c _ _ half)

pub mixed-again : (variant : ℕ) (s : Channels) (v v' : List ℕ) (half half' : List Bool) (e e' g g' : ℕ)
    → mixed variant (mixed variant s v half e g).channels v' half' e' g' ≡ mixed variant s v' half' e' g'
unfolding mixed
mixed-again a s v v' half half' e e' g g' = λ i.
    summed (sounded-again a s.a (get_or v 0 0) (get_or v' 0 0) (get_or half 0 false) (get_or half' 0 false) e e' g g' i)
    (sounded-again a s.b (get_or v 1 0) (get_or v' 1 0) (get_or half 1 false) (get_or half' 1 false) e e' (g / 32) (g' / 32) i)
    (sounded-again a s.c (get_or v 2 0) (get_or v' 2 0) (get_or half 2 false) (get_or half' 2 false) e e' (g / 1024) (g' / 1024) i)
