-- What a channel gives, way by way: the rules over what the code has in hand, its float constants by their bit patterns. Assumes nothing.
use mathlib.Core.Path.{◌≡◌, refl}
use mathlib.Core.Bool.{Bool, true, false}
use Prim.Native.Nat.{ℕ}
use lib.Ieee.{Float, binary32, sub, of_bits, of_int}
use Rattle.channel.specs.declared.Drum.{Drum}
use Rattle.channel.specs.declared.Drum.TheVariants.{Off, Sample}
use Rattle.channel.specs.declared.Channel.{Channel}
use Rattle.channel.specs.declared.Heard.{Heard}
use Rattle.levels.specs.Levels.{loudness_of}
use Rattle.drums.specs.Drums.{float, quotient, times, drum_out}
use Rattle.channel.specs.Channel.{output_of, heard}
use Rattle.drums.proofs.Ranges.{top, one}

-- what the code builds
abbrev built : ℕ → Bool → Drum → Float → Float → Heard
built out muted drum output amplitude =
    record { out = out; channel = record { muted = muted; drum = drum; output = output; amplitude = amplitude } }

-- the code's 0.0 and 2.0, as MIR has them
abbrev zero : Float
zero = of_bits binary32 0

abbrev two : Float
two = of_bits binary32 0x4000_0000

pub zero_is : zero ≡ float 0
unfolding of_bits of_int
zero_is = refl

module _ (c : Channel) (gated ungated : ℕ) (half : Bool) where
  -- the way of a muted channel
  pub muted-heard : c.muted ≡ true → built 0 true c.drum zero zero ≡ heard c gated ungated half
  unfolding heard of_bits of_int
  muted-heard m = rw m

  -- the way of a drum
  pub sample-heard : (s : Float) (out : ℕ) → c.muted ≡ false → c.drum ≡ Sample s → out ≡ drum_out s
      → built out false (Sample s) (sub binary32 (times (quotient (float out) top) two) one) one ≡ heard c gated ungated half
  unfolding heard of_bits of_int
  sample-heard s out m d o = rw (m, d, o)

  -- the way of a level, whose output the last premise settles
  pub level-heard : (out loudness : ℕ) (output : Float) → c.muted ≡ false → c.drum ≡ Off → out ≡ loudness_of half gated → loudness ≡ loudness_of half ungated
      → output ≡ output_of gated ungated (quotient (float loudness) top) → built out false c.drum output (quotient (float loudness) top) ≡ heard c gated ungated half
  unfolding heard of_bits of_int
  level-heard out loudness output m d o l p = rw (p, m, d, o, l)
