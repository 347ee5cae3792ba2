-- What the calls on mutes, drums and outputs change and answer of a lent record's channels. 01, "Numbers a call can answer" and "One tick,
-- one word". Assumes nothing.
use Rattle.std.specs.Prelude.{ℕ, eqb, leb, ltb, Float, Bool, cond, false}
use Rattle.answers.specs.declared.Flag.{Flag}
use Rattle.answers.specs.declared.Outputs.{Outputs}
use Rattle.channel.specs.declared.Drum.{Drum}
use Rattle.drums.specs.Drums.{float}
use Rattle.refusals.specs.Numbers.{accepted, no_such_channel, out_of_range}
use Rattle.steps_channels.specs.declared.Three.{Three}
use Rattle.steps_channels.specs.declared.ThreeSet.{ThreeSet}

-- Mute or drum for channel 3 or above is refused; 22 is checked before all else.
unfoldable pub channel_number : Bool → ℕ → ℕ
channel_number ok channel = cond ok (cond (leb 3 channel) no_such_channel accepted) out_of_range

-- Channel 0 is A, 1 is B, 2 is C.
unfoldable pub put_one : {A : Type 0} → ℕ → A → Three A → Three A
put_one channel x held =
    cond (eqb channel 0) (record { a = x; b = held.b; c = held.c })
    (cond (eqb channel 1) (record { a = held.a; b = x; c = held.c })
    (record { a = held.a; b = held.b; c = x }))

unfoldable pub at_channel : {A : Type 0} → ℕ → Three A → A
at_channel channel held = cond (eqb channel 0) held.a (cond (eqb channel 1) held.b held.c)

-- One value is set, and no other; a refused call sets none.
unfoldable pub one_set : {A : Type 0} → Bool → Three A → ℕ → A → ThreeSet A
one_set ok held channel x =
    let number = channel_number ok channel in
    record { values = cond (eqb number accepted) (put_one channel x held) held; no = number }

abbrev pub mutes_set : Bool → Three Bool → ℕ → Bool → ThreeSet Bool
mutes_set ok mutes channel muted = one_set ok mutes channel muted

abbrev pub drums_set : Bool → Three Drum → ℕ → Drum → ThreeSet Drum
drums_set ok drums channel drum = one_set ok drums channel drum

abbrev pub said : Bool → Flag
said muted = record { no = accepted; yes = muted }

-- Asking whether channel 3 or above is muted gives no.
unfoldable pub mute_said : Bool → Three Bool → ℕ → Flag
mute_said ok mutes channel =
    cond ok (cond (ltb channel 3) (said (at_channel channel mutes)) (said false)) (record { no = out_of_range; yes = false })

-- each channel's last output
unfoldable pub outputs_said : Bool → Three Float → Outputs
outputs_said ok outputs =
    cond ok (record { no = accepted; a = outputs.a; b = outputs.b; c = outputs.c })
    (record { no = out_of_range; a = float 0; b = float 0; c = float 0 })
