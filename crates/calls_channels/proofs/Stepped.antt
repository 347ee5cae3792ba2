-- The calls that change a channel are what their steps make of the chip's mutes and drums. Assumes nothing.
use mathlib.Core.Path.{◌≡◌, refl, ◌∙◌, sym}
use mathlib.Core.Bool.{Bool, true, false, cond, false≢true}
use Prim.Native.Nat.{ℕ}
use native.Mathlib.Omega.{arith}
use lib.Dec.{eqb, leb}
use borrow.Author.Tests.{eq-eqb, eqb-false, leb-false}
use Rattle.refusals.specs.Numbers.{accepted, no_such_channel, out_of_range}
use Rattle.channel.specs.declared.Channel.{Channel}
use Rattle.channel.specs.declared.Drum.{Drum}
use Rattle.channel.specs.Channel.{with_drum, with_mute}
use Rattle.three_channels.specs.Channels.{channel_at, on_channel, put_channel, set_drum, set_mute}
use Rattle.three_channels.specs.declared.Channels.{Channels}
use Rattle.chip.specs.declared.Chip.{Chip}
use Rattle.chip.specs.Range.{chip_in}
use Rattle.chip_parts.specs.Parts.{with_channels}
use Rattle.answers.specs.Answers.{answered}
use Rattle.answers.specs.declared.Answered.{Answered}
use Rattle.steps_channels.specs.declared.Three.{Three}
use Rattle.steps_channels.specs.declared.ThreeSet.{ThreeSet}
use Rattle.steps_channels.specs.ChannelSteps.{channel_number, drums_set, mutes_set, one_set, put_one}
use Rattle.calls_channels.specs.ChannelCalls.{for_channel, mutes_of, set_channel_mute, set_drum_sample_override}

-- one channel of three changed: which, by whether its number is 0, and is 1
abbrev pub one_of : Bool → Bool → (Channel → Channel) → Channels → Channels
one_of zero one change s =
    cond zero (record { a = change s.a; b = s.b; c = s.c })
    (cond one (record { a = s.a; b = change s.b; c = s.c })
    (record { a = s.a; b = s.b; c = change s.c }))

-- a call that changes one channel, by the record's test and by whether the number is 3 or above, is 0, is 1
abbrev pub after : Bool → Bool → Bool → Bool → (Channel → Channel) → Chip → Answered
after ok three zero one change c = cond ok (cond three (answered no_such_channel c) (answered accepted (with_channels (one_of zero one change c.core.channels) c))) (answered out_of_range c)

abbrev put : Bool → Bool → Bool → (Channel → Channel) → Channels → Channels
put zero one two change s =
    let x = change (cond zero s.a (cond one s.b s.c)) in
    cond zero (record { a = x; b = s.b; c = s.c })
    (cond one (record { a = s.a; b = x; c = s.c })
    (cond two (record { a = s.a; b = s.b; c = x })
    s))

-- a number below 3 that is neither 0 nor 1 is 2
third : (n : ℕ) → leb 3 n ≡ false → eqb n 0 ≡ false → eqb n 1 ≡ false → eqb n 2 ≡ true
third n t z o = eq-eqb n 2 (omega (arith, leb-false 3 n t, eqb-false n 0 z, eqb-false n 1 o))

put_same : (ok three zero one two : Bool) (change : Channel → Channel) (c : Chip) → (three ≡ false → zero ≡ false → one ≡ false → two ≡ true)
    → cond ok (cond three (answered no_such_channel c) (answered accepted (with_channels (put zero one two change c.core.channels) c))) (answered out_of_range c) ≡ after ok three zero one change c
put_same true true zero one two change c h = refl
put_same true false true one two change c h = refl
put_same true false false true two change c h = refl
put_same true false false false true change c h = refl
put_same true false false false false change c h = absurd (false≢true (h refl refl refl))
put_same false three zero one two change c h = refl

for-channel : (n : ℕ) (change : Channel → Channel) (c : Chip) → for_channel n (on_channel n change c.core.channels) c ≡ after (chip_in c) (leb 3 n) (eqb n 0) (eqb n 1) change c
unfolding put_channel channel_at
for-channel n change c = put_same (chip_in c) (leb 3 n) (eqb n 0) (eqb n 1) (eqb n 2) change c (third n)

pub mute-after : (n : ℕ) (muted : Bool) (c : Chip) → set_channel_mute n muted c ≡ after (chip_in c) (leb 3 n) (eqb n 0) (eqb n 1) (with_mute muted) c
unfolding set_channel_mute set_mute
mute-after n muted c = for-channel n (with_mute muted) c

pub drum-after : (n : ℕ) (drum : Drum) (c : Chip) → set_drum_sample_override n drum c ≡ after (chip_in c) (leb 3 n) (eqb n 0) (eqb n 1) (with_drum drum) c
unfolding set_drum_sample_override set_drum
drum-after n drum c = for-channel n (with_drum drum) c

-- ---- the steps' mutes and drums, by the same tests, and the chip with them
abbrev pub number : Bool → Bool → ℕ
number ok three = cond ok (cond three no_such_channel accepted) out_of_range

abbrev pub steps-one : {A : Type 0} → Bool → Bool → Bool → Bool → A → Three A → ThreeSet A
steps-one ok three zero one x held =
    let n = number ok three in
    record {
      values = cond (eqb n accepted)
          (cond zero (record { a = x; b = held.b; c = held.c })
          (cond one (record { a = held.a; b = x; c = held.c })
          (record { a = held.a; b = held.b; c = x })))
          held;
      no = n;
    }

abbrev pub with-mutes : ThreeSet Bool → Chip → Answered
with-mutes r c =
    let s = c.core.channels in
    let m = r.values in
    answered r.no (with_channels (record { a = with_mute m.a s.a; b = with_mute m.b s.b; c = with_mute m.c s.c }) c)

mutes-same : (ok three zero one muted : Bool) (c : Chip) → with-mutes (steps-one ok three zero one muted (mutes_of c.core.channels)) c ≡ after ok three zero one (with_mute muted) c
mutes-same true true zero one muted c = refl
mutes-same true false true one muted c = refl
mutes-same true false false true muted c = refl
mutes-same true false false false muted c = refl
mutes-same false three zero one muted c = refl

pub mutes-set : (n : ℕ) (muted : Bool) (c : Chip) → with-mutes (mutes_set (chip_in c) (mutes_of c.core.channels) n muted) c ≡ set_channel_mute n muted c
unfolding one_set put_one channel_number
mutes-set n muted c = mutes-same (chip_in c) (leb 3 n) (eqb n 0) (eqb n 1) muted c ∙ sym (mute-after n muted c)

abbrev pub drums_of : Channels → Three Drum
drums_of s = record { a = s.a.drum; b = s.b.drum; c = s.c.drum }

abbrev pub with-drums : ThreeSet Drum → Chip → Answered
with-drums r c =
    let s = c.core.channels in
    let d = r.values in
    answered r.no (with_channels (record { a = with_drum d.a s.a; b = with_drum d.b s.b; c = with_drum d.c s.c }) c)

drums-same : (ok three zero one : Bool) (drum : Drum) (c : Chip) → with-drums (steps-one ok three zero one drum (drums_of c.core.channels)) c ≡ after ok three zero one (with_drum drum) c
drums-same true true zero one drum c = refl
drums-same true false true one drum c = refl
drums-same true false false true drum c = refl
drums-same true false false false drum c = refl
drums-same false three zero one drum c = refl

pub drums-set : (n : ℕ) (drum : Drum) (c : Chip) → with-drums (drums_set (chip_in c) (drums_of c.core.channels) n drum) c ≡ set_drum_sample_override n drum c
unfolding one_set put_one channel_number
drums-set n drum c = drums-same (chip_in c) (leb 3 n) (eqb n 0) (eqb n 1) drum c ∙ sym (drum-after n drum c)
