-- The calls that read are what their steps answer of the chip's mutes and outputs. Assumes nothing.
use mathlib.Core.Path.{◌≡◌, refl}
use mathlib.Core.Bool.{Bool, true, false, cond}
use Prim.Native.Nat.{ℕ}
use lib.Dec.{eqb, ltb}
use Rattle.answers.specs.declared.Flag.{Flag}
use Rattle.refusals.specs.Numbers.{out_of_range}
use Rattle.three_channels.specs.Channels.{channel_at, is_muted}
use Rattle.three_channels.specs.declared.Channels.{Channels}
use Rattle.chip.specs.declared.Chip.{Chip}
use Rattle.chip.specs.Range.{chip_in}
use Rattle.steps_channels.specs.ChannelSteps.{at_channel, mute_said, outputs_said, said}
use Rattle.calls_channels.specs.ChannelCalls.{get_channel_outputs, is_channel_muted, mutes_of}

-- by the record's test, and by whether the channel is below 3, is A, is B
abbrev steps : Bool → Bool → Bool → Bool → Channels → Flag
steps ok below zero one s = cond ok (cond below (said (cond zero s.a.muted (cond one s.b.muted s.c.muted))) (said false)) (record { no = out_of_range; yes = false })

abbrev answers : Bool → Bool → Bool → Bool → Channels → Flag
answers ok below zero one s = cond ok (said (cond below (cond zero s.a (cond one s.b s.c)).muted false)) (record { no = out_of_range; yes = false })

same : (ok below zero one : Bool) (s : Channels) → steps ok below zero one s ≡ answers ok below zero one s
same true true true one s = refl
same true true false true s = refl
same true true false false s = refl
same true false zero one s = refl
same false below zero one s = refl

pub mute-said : (channel : ℕ) (c : Chip) → mute_said (chip_in c) (mutes_of c.core.channels) channel ≡ is_channel_muted channel c
unfolding mute_said at_channel is_channel_muted is_muted channel_at
mute-said channel c = same (chip_in c) (ltb channel 3) (eqb channel 0) (eqb channel 1) c.core.channels

pub outputs-said : (c : Chip) → let s = c.core.channels in outputs_said (chip_in c) (record { a = s.a.output; b = s.b.output; c = s.c.output }) ≡ get_channel_outputs c
unfolding outputs_said get_channel_outputs
outputs-said c = refl
