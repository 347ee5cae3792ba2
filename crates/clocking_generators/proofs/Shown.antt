-- A tick of what stands for the generators is the generators' tick. Assumes nothing.
use mathlib.Core.Path.{◌≡◌, refl, sym, ap, ap₂, ◌∙◌}
use Prim.Native.Nat.{ℕ, ◌+◌, ◌*◌, ◌/◌, ◌%◌, ◌<◌, max}
use native.Mathlib.Nat.{mod-eq_of_lt}
use native.Mathlib.Omega.{arith}
use borrow.Author.Tests.{le-leb, lt-leb}
use lib.Bits.{bit_and, bit_or, bit_xor, and_comm, and_mask, and_high, or_zero_r, or_zero_l, xor_zero_r}
use Rattle.laws.proofs.Tests.{by_le, by_cond, by_order}
use Rattle.tables.specs.Masks.{five_bits}
use Rattle.tone.specs.declared.Stepped.{Stepped}
use Rattle.tone.specs.Tone.{tone_step, tone_tick}
use Rattle.noise.specs.Noise.{noise_tick}
use Rattle.envelope.specs.Envelope.{envelope_tick}
use Rattle.generators.specs.declared.Generators.{Generators}
use Rattle.generators.specs.Generators.{tick, edges_of}
use Rattle.generators.specs.Range.{GeneratorsInRange}
use Rattle.clocking_generators.specs.declared.Turning.{Turning}
use Rattle.clocking_generators.specs.Turning.{tones_turned, envelope_turned, noise_turned, shown, turned, turning_of}
use Rattle.laws.proofs.Digits.{and_xor, and-or}

-- one part of a tick of the generators
abbrev after_tones : Generators → Generators
after_tones g =
    record {
      a = tone_tick (five_bits 0) g.a;
      b = tone_tick (five_bits 1) g.b;
      c = tone_tick (five_bits 2) g.c;
      noise = g.noise;
      envelope = g.envelope;
    }

abbrev after_envelope : Generators → Generators
after_envelope g = record { a = g.a; b = g.b; c = g.c; noise = g.noise; envelope = envelope_tick g.envelope }

abbrev after_noise : Generators → Generators
after_noise g = record { a = g.a; b = g.b; c = g.c; noise = noise_tick g.noise; envelope = g.envelope }

-- a channel's step, of the edges of all three, is seen by its own mask as a step of its own edges, and by no other
own : (bits period counter e : ℕ) → bit_and bits bits ≡ bits
    → tone_step bits period counter (bit_and e bits)
    ≡ record { counter = (tone_step bits period counter e).counter; edges = bit_and (tone_step bits period counter e).edges bits }
unfolding tone_step
own bits period counter e h =
    by_order period (counter + 1) (λ l. rw (le-leb period (counter + 1) l, and_xor e bits bits, h)) (λ l. rw (lt-leb period (counter + 1) l))

other : (bits mask period counter e : ℕ) → bit_and bits mask ≡ 0 → bit_and (tone_step bits period counter e).edges mask ≡ bit_and e mask
unfolding tone_step
other bits mask period counter e h =
    by_le (λ (s : Stepped). bit_and s.edges mask ≡ bit_and e mask) period (counter + 1)
    (λ _. and_xor e bits mask ∙ ap (bit_xor (bit_and e mask)) h ∙ xor_zero_r (bit_and e mask))
    (λ _. refl)

shown-tones : (t : Turning) → shown (tones_turned t) ≡ after_tones (shown t)
unfolding tones_turned shown tone_tick
shown-tones t =
    let p = t.rest in
    let a = tone_step (five_bits 0) p.a.period t.a t.edges in
    let b = tone_step (five_bits 1) p.b.period t.b a.edges in
    rw (
      own (five_bits 0) p.a.period t.a t.edges refl,
      ← other (five_bits 0) (five_bits 1) p.a.period t.a t.edges refl,
      own (five_bits 1) p.b.period t.b a.edges refl,
      ← other (five_bits 0) (five_bits 2) p.a.period t.a t.edges refl,
      ← other (five_bits 1) (five_bits 2) p.b.period t.b a.edges refl,
      own (five_bits 2) p.c.period t.c b.edges refl,
      other (five_bits 2) (five_bits 0) p.c.period t.c b.edges refl,
      other (five_bits 2) (five_bits 1) p.c.period t.c b.edges refl,
      other (five_bits 1) (five_bits 0) p.b.period t.b a.edges refl,
    )

shown-envelope : (t : Turning) → shown (envelope_turned t) ≡ after_envelope (shown t)
unfolding envelope_turned shown envelope_tick
shown-envelope t =
    by_le (λ (z : Turning). shown z ≡ after_envelope (shown t)) t.rest.envelope.period (t.envelope + 1)
    (λ h. rw (le-leb _ _ h))
    (λ h. rw (lt-leb _ _ h))

shown-noise : (t : Turning) → shown (noise_turned t) ≡ after_noise (shown t)
unfolding noise_turned shown noise_tick
shown-noise t =
    by_cond (λ (z : Turning). shown z ≡ after_noise (shown t)) t.half _ _
    (λ e. rw e)
    (λ e.
    by_le (λ (z : Turning). shown z ≡ after_noise (shown t)) (max t.rest.noise.period 1) (t.noise + 1)
    (λ h. rw (e, le-leb _ _ h))
    (λ h. rw (e, lt-leb _ _ h)))

pub shown-tick : (t : Turning) → shown (turned t) ≡ tick (shown t)
unfolding turned tick
shown-tick t =
    shown-noise _
    ∙ ap after_noise (shown-envelope _
    ∙ ap after_envelope (shown-tones t))

-- the edges side by side are the word
pub shown-edges : (t : Turning) → t.edges < 32768 → edges_of (shown t) ≡ t.edges
unfolding edges_of shown
shown-edges t h =
    let e = t.edges in
    let join : (p q : ℕ) → bit_or (bit_and e p) (bit_and e q) ≡ bit_and e (bit_or p q)
    = λ p q. ap₂ bit_or (and_comm e p) (and_comm e q) ∙ sym (and-or p q e) ∙ and_comm (bit_or p q) e
    in
    ap (λ (x : ℕ). bit_or x (bit_and e (five_bits 2))) (join (five_bits 0) (five_bits 1))
    ∙ join (bit_or (five_bits 0) (five_bits 1)) (five_bits 2)
    ∙ and_mask e 15
    ∙ mod-eq_of_lt h

-- Three tones' edges in one word, and each read back by its mask.
record Reads (a b c : ℕ) : Type 0 where
  pub of-a : bit_and (bit_or (bit_or a b) c) (five_bits 0) ≡ a
  pub of-b : bit_and (bit_or (bit_or a b) c) (five_bits 1) ≡ b
  pub of_c : bit_and (bit_or (bit_or a b) c) (five_bits 2) ≡ c

module _ (a b c : ℕ) (low-b : b % 32 ≡ 0) (low-c : c % 1024 ≡ 0) (high-a : a < 32) (high-b : b < 1024) (high-c : c < 32768) where
  spread : (mask : ℕ) → bit_and (bit_or (bit_or a b) c) mask ≡ bit_or (bit_or (bit_and a mask) (bit_and b mask)) (bit_and c mask)
  spread mask = and-or (bit_or a b) c mask ∙ ap (λ (x : ℕ). bit_or x (bit_and c mask)) (and-or a b mask)

  by-a : (n r : ℕ) → n % 32 ≡ r → bit_and n (five_bits 0) ≡ r
  by-a n r h = and_mask n 5 ∙ h

  by-b : (n r : ℕ) → n / 32 % 32 * 32 ≡ r → bit_and n (five_bits 1) ≡ r
  by-b n r h = and_high n 5 5 ∙ h

  by-c : (n r : ℕ) → n / 1024 % 32 * 1024 ≡ r → bit_and n (five_bits 2) ≡ r
  by-c n r h = and_high n 5 10 ∙ h

  read_a : bit_and (bit_or (bit_or a b) c) (five_bits 0) ≡ a
  read_a =
      spread (five_bits 0)
      ∙ ap₂ bit_or (ap₂ bit_or (by-a a a (omega arith)) (by-a b 0 (omega arith)) ∙ or_zero_r a) (by-a c 0 (omega arith))
      ∙ or_zero_r a

  read-b : bit_and (bit_or (bit_or a b) c) (five_bits 1) ≡ b
  read-b =
      spread (five_bits 1)
      ∙ ap₂ bit_or (ap₂ bit_or (by-b a 0 (omega arith)) (by-b b b (omega arith)) ∙ or_zero_l b) (by-b c 0 (omega arith))
      ∙ or_zero_r b

  read-c : bit_and (bit_or (bit_or a b) c) (five_bits 2) ≡ c
  read-c =
      spread (five_bits 2)
      ∙ ap₂ bit_or (ap₂ bit_or (by-c a 0 (omega arith)) (by-c b 0 (omega arith))) (by-c c c (omega arith))
      ∙ or_zero_l c

  reads : Reads a b c
  reads = record { of-a = read_a; of-b = read-b; of_c = read-c }

pub shown_of : {g : Generators} → GeneratorsInRange g → shown (turning_of g) ≡ g
unfolding shown turning_of edges_of
shown_of {g} r =
    let at : Reads g.a.edges g.b.edges g.c.edges
    = reads g.a.edges g.b.edges g.c.edges r.b.low r.c.low r.a.high r.b.high r.c.high
    in
    rw (at.of-a, at.of-b, at.of_c)
