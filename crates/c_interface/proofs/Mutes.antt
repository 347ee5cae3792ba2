-- What the calls that set a mute or a drum store in a lent record is what they tell: the channel that is set, and with a mute the drums.
use Rattle.std.proofs.Common.{◌≡◌, ◌∙◌, refl, sym, ap, ℕ, Bool, true, false}
use Rattle.std.specs.Prelude.{eqb, leb}
use Rattle.channel.specs.Channel.{with_drum, with_mute}
use Rattle.chip.specs.Range.{chip_in}
use Rattle.answers.specs.declared.Answered.{Answered}
use Rattle.steps_channels.specs.declared.ThreeSet.{ThreeSet}
use Rattle.steps_channels.specs.ChannelSteps.{channel_number, drums_set, mutes_set, one_set, put_one}
use Rattle.calls_channels.specs.ChannelCalls.{set_channel_mute, set_drum_sample_override}
use Rattle.calls_channels.proofs.Stepped.{after, drum-after, mute-after, steps-one}
use Rattle.c_record.specs.declared.Record.{Record}
use Rattle.c_record.specs.declared.RecordDrum.{RecordDrum}
use Rattle.c_record.specs.Record.{chip_of, core_of, drum_of, record_core}
use Rattle.c_told.specs.Told.{lent_back, told}
use Rattle.c_calls.specs.Calls.{on_record}
use Rattle.c_steps.specs.declared.RecordStep.{RecordStep}
use Rattle.c_steps.specs.RecordSteps.{drums_of, record_drummed, record_muted, settled}
use Rattle.c_interface.specs.Parts.{drums_in, mutes_in}

-- ---- `set_channel_mute`
abbrev pub stored_mutes : Record → RecordStep (ThreeSet Bool) → Record
stored_mutes x r =
    let m = r.step.values in
    record x {
      core = record x.core {
        a = record x.core.a { muted = m.a; drum = r.drums.a };
        b = record x.core.b { muted = m.b; drum = r.drums.b };
        c = record x.core.c { muted = m.c; drum = r.drums.c };
      };
    }

-- by the record's test, and by whether the channel is 3 or above, is 0, is 1
abbrev muted_by : Bool → Bool → Bool → Bool → Bool → Record → RecordStep (ThreeSet Bool)
muted_by ok three zero one muted x = record_muted (drums_in x) (steps-one ok three zero one muted (mutes_in x))

mutes-told : (ok three zero one muted : Bool) (x : Record) → (muted_by ok three zero one muted x).step.no ≡ (after ok three zero one (with_mute muted) (chip_of x)).no
mutes-told true true zero one muted x = refl
mutes-told true false true one muted x = refl
mutes-told true false false true muted x = refl
mutes-told true false false false muted x = refl
mutes-told false three zero one muted x = refl

mutes-left : (ok three zero one muted : Bool) (x : Record) → stored_mutes x (muted_by ok three zero one muted x) ≡ (told x (after ok three zero one (with_mute muted) (chip_of x))).chip
unfolding lent_back settled core_of record_core
mutes-left true true zero one muted x = refl
mutes-left true false true one muted x = refl
mutes-left true false false true muted x = refl
mutes-left true false false false muted x = refl
mutes-left false three zero one muted x = refl

abbrev pub muted_of : ℕ → Bool → Record → RecordStep (ThreeSet Bool)
muted_of n muted x = record_muted (drums_in x) (mutes_set (chip_in (chip_of x)) (mutes_in x) n muted)

pub mute-told : (n : ℕ) (muted : Bool) (x : Record) → (muted_of n muted x).step.no ≡ (on_record (set_channel_mute n muted) x).no
unfolding one_set put_one channel_number core_of
mute-told n muted x =
    mutes-told (chip_in (chip_of x)) (leb 3 n) (eqb n 0) (eqb n 1) muted x ∙ ap (λ (r : Answered). r.no) (sym (mute-after n muted (chip_of x)))

pub mute-left : (n : ℕ) (muted : Bool) (x : Record) → stored_mutes x (muted_of n muted x) ≡ (on_record (set_channel_mute n muted) x).chip
unfolding one_set put_one channel_number core_of
mute-left n muted x =
    mutes-left (chip_in (chip_of x)) (leb 3 n) (eqb n 0) (eqb n 1) muted x
    ∙ ap (λ (r : Answered). (told x r).chip) (sym (mute-after n muted (chip_of x)))

-- ---- `set_drum_sample_override`
abbrev pub stored_drums : Record → ThreeSet RecordDrum → Record
stored_drums x r =
    let d = r.values in
    record x {
      core = record x.core { a = record x.core.a { drum = d.a }; b = record x.core.b { drum = d.b }; c = record x.core.c { drum = d.c } };
    }

abbrev drummed_by : Bool → Bool → Bool → Bool → RecordDrum → Record → ThreeSet RecordDrum
drummed_by ok three zero one d x = record_drummed (drums_in x) (steps-one ok three zero one (drum_of d) (drums_of (drums_in x)))

drums-told : (ok three zero one : Bool) (d : RecordDrum) (x : Record) → (drummed_by ok three zero one d x).no ≡ (after ok three zero one (with_drum (drum_of d)) (chip_of x)).no
unfolding record_drummed
drums-told true true zero one d x = refl
drums-told true false true one d x = refl
drums-told true false false true d x = refl
drums-told true false false false d x = refl
drums-told false three zero one d x = refl

drums-left : (ok three zero one : Bool) (d : RecordDrum) (x : Record) → stored_drums x (drummed_by ok three zero one d x) ≡ (told x (after ok three zero one (with_drum (drum_of d)) (chip_of x))).chip
unfolding record_drummed lent_back core_of record_core
drums-left true true zero one d x = refl
drums-left true false true one d x = refl
drums-left true false false true d x = refl
drums-left true false false false d x = refl
drums-left false three zero one d x = refl

abbrev pub drummed_of : ℕ → RecordDrum → Record → ThreeSet RecordDrum
drummed_of n d x = record_drummed (drums_in x) (drums_set (chip_in (chip_of x)) (drums_of (drums_in x)) n (drum_of d))

pub drum-told : (n : ℕ) (d : RecordDrum) (x : Record) → (drummed_of n d x).no ≡ (on_record (set_drum_sample_override n (drum_of d)) x).no
unfolding one_set put_one channel_number core_of
drum-told n d x =
    drums-told (chip_in (chip_of x)) (leb 3 n) (eqb n 0) (eqb n 1) d x ∙ ap (λ (r : Answered). r.no) (sym (drum-after n (drum_of d) (chip_of x)))

pub drum-left : (n : ℕ) (d : RecordDrum) (x : Record) → stored_drums x (drummed_of n d x) ≡ (on_record (set_drum_sample_override n (drum_of d)) x).chip
unfolding one_set put_one channel_number core_of
drum-left n d x =
    drums-left (chip_in (chip_of x)) (leb 3 n) (eqb n 0) (eqb n 1) d x
    ∙ ap (λ (r : Answered). (told x r).chip) (sym (drum-after n (drum_of d) (chip_of x)))
