-- A part of a word, way by way, and the word of three parts. Assumes nothing.
use mathlib.Core.Path.{◌≡◌, ap}
use mathlib.Core.Bool.{Bool, true, false}
use mathlib.Core.List.{List}
use Prim.Native.Nat.{ℕ, ◌+◌, ◌/◌, ◌≤◌, ◌<◌}
use lib.Ieee.{Float}
use lib.ListN.{get_or}
use Rattle.drums.specs.Drums.{drum_out}
use Rattle.levels.specs.Levels.{gated_level, loudness_of}
use Rattle.levels.proofs.Laws.{gated-lt}
use Rattle.level_scale.specs.declared.Scale.{Scale}
use Rattle.level_scale.specs.Scale.{scale_of, IsScale, source_of, sources_of, used_of, picked}
use Rattle.level_scale.proofs.Picking.{made-le, picked-lt, picks-level}
use Rattle.channel.specs.declared.Drum.TheVariants.{Off, Sample}
use Rattle.channel.specs.declared.Channel.{Channel}
use Rattle.channel.specs.Channel.{heard, sounded}
use Rattle.channel.proofs.Laws.{heard-le}
use Rattle.three_channels.specs.declared.Channels.{Channels}
use Rattle.mixer.specs.Mix.{mixed}
use Rattle.word_sum.specs.Sum.{AreSources, part_by, sum_by}

module _ (c : Channel) (source : ℕ) (half : Bool) (used gate : ℕ) where
  pub muted-part : c.muted ≡ true → 0 ≡ part_by c source half used gate
  unfolding part_by heard
  muted-part m = rw m

  pub sample-part : (s : Float) (out : ℕ) → c.muted ≡ false → c.drum ≡ Sample s → out ≡ drum_out s → out ≡ part_by c source half used gate
  unfolding part_by heard
  sample-part s out m d o = rw (m, d, o)

  pub level-part : (out : ℕ) → c.muted ≡ false → c.drum ≡ Off → out ≡ loudness_of half (gated_level (picked source used) gate)
      → out ≡ part_by c source half used gate
  unfolding part_by heard
  level-part out m d o = rw (m, d, o)

-- a part, known to be the rule's, is at most 10922
pub part-le : (out : ℕ) (c : Channel) (source : ℕ) (half : Bool) (used gate : ℕ) → out ≡ part_by c source half used gate → source ≤ 32 → used < 32 → out ≤ 10922
unfolding part_by
part-le out c source half used gate p h k =
    let u = picked source used in rw p (heard-le c (gated_level u gate) u half (gated-lt u gate (picked-lt source used h k)))

-- three parts, each known to be the rule's, make the rule's word
pub parts-summed : (x y z : ℕ) (s : Channels) (sources : List ℕ) (halves : List Bool) (used gate : ℕ)
    → x ≡ part_by s.a (get_or sources 0 0) (get_or halves 0 false) used gate
    → y ≡ part_by s.b (get_or sources 1 0) (get_or halves 1 false) used (gate / 32)
    → z ≡ part_by s.c (get_or sources 2 0) (get_or halves 2 false) used (gate / 1024)
    → x + y + z ≡ sum_by s sources halves used gate
unfolding sum_by
parts-summed x y z s sources half used gate p q r = λ i. p i + q i + r i

-- the sources that a scale gives
pub are-sources : {sources : List ℕ} (s : Scale) (volumes : List ℕ) → sources ≡ sources_of s volumes → IsScale s → AreSources sources
are-sources s volumes e h = rw e (record { a = made-le s (get_or volumes 0 0) h; b = made-le s (get_or volumes 1 0) h; c = made-le s (get_or volumes 2 0) h })

-- by them a part is the channel's, and the sum the word
part-sounded : (variant : ℕ) (c : Channel) (volume : ℕ) (half : Bool) (envelope gate : ℕ) → envelope < 32
    → part_by c (source_of (scale_of variant) volume) half (used_of (scale_of variant) envelope) gate ≡ (sounded variant c volume half envelope gate).out
unfolding part_by sounded
part-sounded variant c volume half envelope gate h =
    ap (λ (u : ℕ). (heard c (gated_level u gate) u half).out) (picks-level variant volume envelope h)

pub sum-mixed : (variant : ℕ) (s : Channels) (volumes : List ℕ) (halves : List Bool) (envelope gate : ℕ) → envelope < 32
    → sum_by s (sources_of (scale_of variant) volumes) halves (used_of (scale_of variant) envelope) gate ≡ (mixed variant s volumes halves envelope gate).word
unfolding sum_by mixed
sum-mixed variant s volumes halves envelope gate h = λ i.
    part-sounded variant s.a (get_or volumes 0 0) (get_or halves 0 false) envelope gate h i
    + part-sounded variant s.b (get_or volumes 1 0) (get_or halves 1 false) envelope (gate / 32) h i
    + part-sounded variant s.c (get_or volumes 2 0) (get_or halves 2 false) envelope (gate / 1024) h i
