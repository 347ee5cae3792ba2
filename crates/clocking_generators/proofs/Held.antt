-- Each part of a tick keeps the counters and the edges in bounds. Assumes nothing.
use mathlib.Core.Bool.{Bool, true}
use mathlib.Core.Path.{◌≡◌, ap, ◌∙◌}
use Prim.Native.Nat.{ℕ, zero, suc, ◌+◌, ◌≤◌, ◌<◌}
use native.Mathlib.Omega.{arith}
use borrow.Author.Tests.{leb-true, ltb-true}
use lib.Bits.{bit_or, or_lt, xor_lt}
use lib.IntN.{ℤ, pos, negsuc, ◌+ℤ◌, +ℤ_one}
use lib.Signed.{mag, lt_z}
use mir.Facts.{to_z-of_z}
use mir.Syntax.{w32}
use mir.Val.{to_z, of_z}
use Rattle.laws.proofs.Tests.{by_cond, by_le}
use Rattle.tone.specs.declared.Stepped.{Stepped}
use Rattle.tone.specs.Tone.{tone_step}
use Rattle.envelope.specs.Envelope.{next_position}
use Rattle.envelope.specs.Range.{PositionInRange}
use Rattle.generators.specs.declared.Generators.{Generators}
use Rattle.generators.specs.Range.{GeneratorsInRange}
use Rattle.generators.specs.Generators.{edges_of}
use Rattle.clocking_generators.specs.declared.Turning.{Turning}
use Rattle.clocking_generators.specs.Turning.{Held, new_tones, turning_of, new_envelope, new_noise}

pub held-tones : {t : Turning} (a b c edges : ℕ) → Held t → a ≤ 65535 → b ≤ 65535 → c ≤ 65535 → edges < 32768 → Held (new_tones a b c edges t)
held-tones a b c edges h x y z e = record { a = x; b = y; c = z; envelope = h.envelope; noise = h.noise; edges = e; position = h.position }

pub held-envelope : {t : Turning} (counter : ℕ) (position : ℤ) → Held t → counter ≤ 65535 → mag position < 2147483648 → Held (new_envelope counter position t)
held-envelope counter position h x p = record { a = h.a; b = h.b; c = h.c; envelope = x; noise = h.noise; edges = h.edges; position = p }

pub held-noise : {t : Turning} (counter register output : ℕ) (half : Bool) → Held t → counter ≤ 65535 → Held (new_noise counter register output half t)
held-noise counter register output half h x = record { a = h.a; b = h.b; c = h.c; envelope = h.envelope; noise = x; edges = h.edges; position = h.position }

-- fifteen bits stay fifteen
pub step-lt : (bits period counter edges : ℕ) → bits < 32768 → edges < 32768 → (tone_step bits period counter edges).edges < 32768
unfolding tone_step
step-lt bits period counter edges b e =
    by_le (λ (s : Stepped). s.edges < 32768) period (counter + 1) (λ _. xor_lt 15 edges bits e b) (λ _. e)

edges-lt : {g : Generators} → GeneratorsInRange g → edges_of g < 32768
unfolding edges_of
edges-lt {g} r =
    or_lt 15 (bit_or g.a.edges g.b.edges) g.c.edges
    (or_lt 15 g.a.edges g.b.edges (omega (arith, r.a.high)) (omega (arith, r.b.high)))
    r.c.high

pub position-mag : (p : ℤ) → PositionInRange p → mag p < 2147483648
position-mag (pos n) h = omega (arith, leb-true n 63 h.to)
position-mag (negsuc n) h = omega (arith, leb-true n 63 h.from)

pub held_of : {g : Generators} → GeneratorsInRange g → g.a.counter < 65536 → g.b.counter < 65536 → g.c.counter < 65536
    → g.envelope.counter < 65536 → g.noise.counter < 65536 → Held (turning_of g)
unfolding turning_of
held_of {g} r a b c e n =
    record {
      a = omega arith;
      b = omega arith;
      c = omega arith;
      envelope = omega arith;
      noise = omega arith;
      edges = edges-lt r;
      position = position-mag g.envelope.position r.envelope.position;
    }

-- a position of 32 bits is read back as it was stored, and so is the next
pub kept : (p : ℤ) → mag p < 2147483648 → to_z w32 (of_z w32 p) ≡ p
kept p h = to_z-of_z {w = w32} (record { sfits = h })

up : (p : ℤ) → mag p < 2147483648 → lt_z p (pos 63) ≡ true → mag (p +ℤ pos 1) < 2147483648
up (pos n) h e = omega (arith, ltb-true n 63 e)
up (negsuc zero) h e = omega arith
up (negsuc (suc n)) h e = rw (+ℤ_one (negsuc (suc n))) (omega (arith, h))

pub next-mag : (p : ℤ) → mag p < 2147483648 → mag (next_position p) < 2147483648
unfolding next_position
next-mag p h = by_cond (λ (z : ℤ). mag z < 2147483648) (lt_z p (pos 63)) _ _ (λ e. up p h e) (λ e. omega arith)

pub next-kept : (p : ℤ) {r : ℤ} → mag p < 2147483648 → r ≡ next_position (to_z w32 (of_z w32 p)) → to_z w32 (of_z w32 r) ≡ next_position p
next-kept p {r} h e =
    ap (λ (z : ℤ). to_z w32 (of_z w32 z)) (e ∙ ap next_position (kept p h)) ∙ kept (next_position p) (next-mag p h)
