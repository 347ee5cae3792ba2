-- What the test of a voice says, part by part, and back. Assumes nothing.
use mathlib.Core.Bool.{Bool, true}
use mathlib.Core.Logic.{◌⊎◌, inl, inr, ⊎_elim}
use mathlib.Core.Path.{◌≡◌, refl, ap, ◌∙◌}
use Prim.Native.Nat.{ℕ, ◌+◌, ◌-◌, ◌*◌, ◌/◌, ◌%◌, ◌^◌, ◌<◌}
use native.Mathlib.Nat.{add_comm, div-lt_iff_lt-mul, mod-eq_of_lt, div-add-mod'}
use native.Mathlib.Omega.{arith}
use borrow.Author.Tests.{leb-true, eqb-true, le-leb, eq-eqb}
use lib.Bits.{bit_and, and_high}
use lib.Dec.{leb, eqb}
use lib.IntN.{pos}
use lib.ListN.{length, get_or}
use lib.Signed.{le_z}
use lib.Pow.{pow-add, pow_pos}
use Rattle.laws.proofs.Lists.{both-parts, both_true, below_parts, parts_below}
use Rattle.laws.proofs.Tests.{by-eq}
use Rattle.tables.specs.Masks.{register_mask, five_bits}
use Rattle.tone.specs.declared.Tone.{Tone}
use Rattle.noise.specs.declared.Noise.{Noise}
use Rattle.envelope.specs.declared.Envelope.{Envelope}
use Rattle.generators.specs.declared.Generators.{Generators}
use Rattle.tone.specs.Tone.{tone_reset}
use Rattle.envelope.specs.Envelope.{restart_position}
use Rattle.tone.specs.Range.{ToneInRange}
use Rattle.noise.specs.Range.{NoiseInRange}
use Rattle.envelope.specs.Range.{EnvelopeInRange}
use Rattle.generators.specs.Range.{GeneratorsInRange}
use Rattle.tone.proofs.Flipping.{tone-masked-in}
use Rattle.registers.specs.declared.Voice.{Voice}
use Rattle.registers.specs.Range.{VoiceInRange}
use Rattle.voice_range.specs.Range.{bytes_in, tone_in, all_or_none, noise_in, envelope_in, generators_in, gates_in, voice_in}

-- edges in range are within the channel's five bits
module _ (channel e : ℕ) (low : e % 2 ^ (5 * channel) ≡ 0) (high : e < 2 ^ (5 * channel + 5)) where
  ones : five_bits channel ≡ 2 ^ (5 + 5 * channel) - 2 ^ (5 * channel)
  ones = rw (pow-add 2 5 (5 * channel)) (go (2 ^ (5 * channel)))
    where
      go : (u : ℕ) → 0x1f * u ≡ 2 ^ 5 * u - u
      go u = omega arith

  few : e / 2 ^ (5 * channel) < 2 ^ 5
  few = (div-lt_iff_lt-mul (pow_pos (5 * channel))).1 (rw (add_comm (5 * channel) 5, pow-add 2 5 (5 * channel)) at high)

  edges-within : bit_and e (five_bits channel) ≡ e
  edges-within =
      ap (bit_and e) ones
      ∙ and_high e 5 (5 * channel)
      ∙ ap (λ (n : ℕ). n * 2 ^ (5 * channel)) (mod-eq_of_lt few)
      ∙ whole (e / 2 ^ (5 * channel) * 2 ^ (5 * channel)) (e % 2 ^ (5 * channel)) (div-add-mod' e (2 ^ (5 * channel))) low
    where
      whole : (a b : ℕ) → a + b ≡ e → b ≡ 0 → a ≡ e
      whole a b p q = omega arith

tone-passed : (channel : ℕ) {t : Tone} → tone_in (five_bits channel) t ≡ true → ToneInRange channel t
unfolding tone_in
tone-passed channel {t} e =
    let (a, p) = both-parts (leb t.period 4095) _ e in
    let (b, _) = both-parts (eqb (bit_and t.edges (five_bits channel)) t.edges) _ p in
    let same : bit_and t.edges (five_bits channel) ≡ t.edges = eqb-true _ _ b in
    let r : ToneInRange channel (tone_reset t.edges) = rw same at (tone-masked-in channel t.edges) in
    record { period = leb-true _ _ a; low = r.low; high = r.high }

tone-passes : (channel : ℕ) {t : Tone} → ToneInRange channel t → tone_in (five_bits channel) t ≡ true
unfolding tone_in
tone-passes channel {t} r =
    both_true (le-leb _ _ r.period) (both_true (eq-eqb _ _ (edges-within channel t.edges r.low r.high)) refl)

none-or-all : (output : ℕ) → all_or_none output ≡ true → (output ≡ 0) ⊎ (output ≡ 0xffff_ffff)
unfolding all_or_none
none-or-all o =
    by-eq (λ (b : Bool). b ≡ true → (o ≡ 0) ⊎ (o ≡ 0xffff_ffff)) o 0 (λ h _. inl h)
    (λ _. by-eq (λ (b : Bool). b ≡ true → (o ≡ 0) ⊎ (o ≡ 0xffff_ffff)) o 0xffff_ffff (λ h _. inr h)
    (λ _ e. let z : ◌≡◌ {A = ℕ} 0 1 = cc in absurd (omega arith)))

all-or-none : (output : ℕ) → (output ≡ 0) ⊎ (output ≡ 0xffff_ffff) → all_or_none output ≡ true
unfolding all_or_none
all-or-none o h = ⊎_elim (λ e. rw e) (λ e. rw e) h

noise-passed : {n : Noise} → noise_in n ≡ true → NoiseInRange n
unfolding noise_in
noise-passed {n} e =
    let (a, p) = both-parts (leb n.period 31) _ e in
    let (b, q) = both-parts (leb 1 n.register) _ p in
    let (d, r) = both-parts (leb n.register 131071) _ q in
    let (o, _) = both-parts (all_or_none n.output) _ r in
    record { period = leb-true _ _ a; some = leb-true _ _ b; narrow = leb-true _ _ d; output = none-or-all _ o }

noise-passes : {n : Noise} → NoiseInRange n → noise_in n ≡ true
unfolding noise_in
noise-passes {n} r =
    both_true (le-leb _ _ r.period)
    (both_true (le-leb _ _ r.some) (both_true (le-leb _ _ r.narrow) (both_true (all-or-none _ r.output) refl)))

envelope-passed : {e : Envelope} → envelope_in e ≡ true → EnvelopeInRange e
unfolding envelope_in
envelope-passed {e} h =
    let (a, p) = both-parts (le_z restart_position e.position) _ h in
    let (b, q) = both-parts (le_z e.position (pos 63)) _ p in
    let (d, r) = both-parts (eqb (e.offset % 128) 0) _ q in
    let (o, _) = both-parts (leb e.offset 1152) _ r in
    record { position = record { from = a; to = b }; offset = record { row = eqb-true _ _ d; last = leb-true _ _ o } }

envelope-passes : {e : Envelope} → EnvelopeInRange e → envelope_in e ≡ true
unfolding envelope_in
envelope-passes {e} r =
    both_true r.position.from
    (both_true r.position.to (both_true (eq-eqb _ _ r.offset.row) (both_true (le-leb _ _ r.offset.last) refl)))

generators-passed : {g : Generators} → generators_in g ≡ true → GeneratorsInRange g
unfolding generators_in
generators-passed {g} h =
    let (a, p) = both-parts (tone_in (five_bits 0) g.a) _ h in
    let (b, q) = both-parts (tone_in (five_bits 1) g.b) _ p in
    let (d, r) = both-parts (tone_in (five_bits 2) g.c) _ q in
    let (n, t) = both-parts (noise_in g.noise) _ r in
    let (e, _) = both-parts (envelope_in g.envelope) _ t in
    record { a = tone-passed 0 a; b = tone-passed 1 b; c = tone-passed 2 d; noise = noise-passed n; envelope = envelope-passed e }

generators-pass : {g : Generators} → GeneratorsInRange g → generators_in g ≡ true
unfolding generators_in
generators-pass {g} r =
    both_true (tone-passes 0 r.a)
    (both_true (tone-passes 1 r.b)
    (both_true (tone-passes 2 r.c) (both_true (noise-passes r.noise) (both_true (envelope-passes r.envelope) refl))))

pub voice-passed : {v : Voice} → length v.registers ≡ 14 → voice_in v ≡ true → VoiceInRange v
unfolding voice_in bytes_in gates_in
voice-passed {v} n e =
    let (a, p) = both-parts (bytes_in v.registers) _ e in
    let (b, q) = both-parts (generators_in v.generators) _ p in
    let (d, _) = both-parts (gates_in v.gates) _ q in
    let (t, u) = both-parts (leb v.gates.tone 0x7fff) _ d in
    let (m, _) = both-parts (leb v.gates.noise 0x7fff) _ u in
    record {
      bytes = record { long = n; within = λ r h. leb-true _ _ (below_parts (λ i. leb (get_or v.registers i 0) (register_mask i)) 14 a r h) };
      generators = generators-passed b;
      gates = record { tone = leb-true _ _ t; noise = leb-true _ _ m };
    }

pub voice-passes : {v : Voice} → VoiceInRange v → voice_in v ≡ true
unfolding voice_in bytes_in gates_in
voice-passes {v} r =
    both_true (parts_below (λ i. leb (get_or v.registers i 0) (register_mask i)) 14 (λ k h. le-leb _ _ (r.bytes.within k h)))
    (both_true (generators-pass r.generators)
    (both_true (both_true (le-leb _ _ r.gates.tone) (both_true (le-leb _ _ r.gates.noise) refl)) refl))
