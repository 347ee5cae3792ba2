-- The envelope's position keeps to -64..63: restarted it reaches 0 once and then circles 0..63. Its level is its shape's entry. Assumes nothing.
use mathlib.Core.Path.{◌≡◌, refl, ap, ◌∙◌}
use Prim.Native.Nat.{ℕ, zero, suc, ◌+◌, ◌-◌, ◌%◌, ◌<◌}
use native.Mathlib.Nat.{add-suc}
use native.Mathlib.Omega.{arith}
use borrow.Author.Tests.{leb-true, le-leb}
use lib.IntN.{ℤ, pos, negsuc, +ℤ_one}
use Rattle.laws.proofs.Tests.{by_le, by-lt}
use Rattle.envelope_shapes.specs.Shapes.{shape_entry, offset_of}
use Rattle.envelope_shapes.proofs.Waves.{shape-entry, offset-real, entry_lt}
use Rattle.envelope.specs.declared.Envelope.{Envelope}
use Rattle.envelope.specs.Envelope.{restart_position, envelope_reset, envelope_set, restarted, shaped, next_position, envelope_tick, row_place, envelope_level}
use Rattle.envelope.specs.Range.{PositionInRange, EnvelopeInRange}
use Rattle.envelope.specs.Course.{walked}
use Rattle.envelope.proofs.Places.{place-lt}

-- a step below zero, and one round 0..63
next-below : (m : ℕ) → next_position (negsuc (suc m)) ≡ negsuc m
unfolding next_position
next-below m = +ℤ_one (negsuc (suc m))

next-round : (m : ℕ) → m < 64 → next_position (pos m) ≡ pos ((m + 1) % 64)
unfolding next_position
next-round m h =
    by-lt (λ (z : ℤ). z ≡ pos ((m + 1) % 64)) m 63
    (λ k. ap pos (omega arith))
    (λ k. ap pos (omega arith))

-- an envelope restarted at -64 is at n - 64 after n steps, until it reaches 0,
pub walked-up : (n : ℕ) → n < 64 → walked n ≡ negsuc (63 - n)
unfolding walked
walked-up zero h = refl
walked-up (suc n) h =
    let e : 63 - n ≡ suc (63 - suc n) = omega arith in
    ap next_position (walked-up n (omega arith) ∙ ap negsuc e) ∙ next-below (63 - suc n)

-- and from then on circles 0..63
pub walked-round : (n : ℕ) → walked (64 + n) ≡ pos (n % 64)
unfolding walked next_position
walked-round zero = refl
walked-round (suc n) = ap walked (add-suc 64 n) ∙ ap next_position (walked-round n) ∙ next-round (n % 64) (omega arith) ∙ ap pos (omega arith)

next-in : (p : ℤ) → PositionInRange p → PositionInRange (next_position p)
unfolding next_position
next-in (pos m) h = rw (next-round m (omega (arith, leb-true m 63 h.to))) (record { from = refl; to = le-leb ((m + 1) % 64) 63 (omega arith) })
next-in (negsuc zero) h = record { from = refl; to = refl }
next-in (negsuc (suc m)) h = rw (next-below m) (record { from = le-leb m 63 (omega (arith, leb-true (suc m) 63 h.from)); to = refl })

start-in : PositionInRange restart_position
start-in = record { from = refl; to = refl }

pub envelope-reset-in : (e : Envelope) → EnvelopeInRange (envelope_reset e)
envelope-reset-in e = record { position = record { from = refl; to = refl }; offset = record { row = refl; last = omega arith } }

pub shaped_in : (shape : ℕ) (e : Envelope) → EnvelopeInRange (shaped shape e)
shaped_in shape e = record { position = start-in; offset = offset-real (shape % 16) (omega arith) }

-- a tick leaves the shape
pub tick-offset : (e : Envelope) → (envelope_tick e).offset ≡ e.offset
unfolding envelope_tick
tick-offset e = by_le (λ (x : Envelope). x.offset ≡ e.offset) e.period (e.counter + 1) (λ _. refl) (λ _. refl)

module _ {e : Envelope} (h : EnvelopeInRange e) where
  pub envelope-set-in : (period : ℕ) → EnvelopeInRange (envelope_set period e)
  envelope-set-in period = record { position = h.position; offset = h.offset }

  pub restarted-in : EnvelopeInRange (restarted e)
  restarted-in = record { position = start-in; offset = h.offset }

  pub envelope-tick-in : EnvelopeInRange (envelope_tick e)
  unfolding envelope_tick
  envelope-tick-in =
      by_le EnvelopeInRange e.period (e.counter + 1)
      (λ k. record { position = next-in e.position h.position; offset = h.offset })
      (λ k. record { position = h.position; offset = h.offset })

  -- the level is a level index
  pub envelope-level-lt : envelope_level e < 32
  unfolding envelope_level
  envelope-level-lt = entry_lt e.offset (row_place e.position) h.offset (place-lt e.position h.position)

  -- an envelope of a shape gives that shape's own entries
  pub envelope-level-is : (shape : ℕ) → shape < 16 → e.offset ≡ offset_of shape → envelope_level e ≡ shape_entry shape (row_place e.position)
  unfolding envelope_level
  envelope-level-is shape k o = rw o (shape-entry shape (row_place e.position) k (place-lt e.position h.position))

pub shaped-level : (shape : ℕ) (e : Envelope) → envelope_level (shaped shape e) ≡ shape_entry (shape % 16) 0
unfolding row_place
shaped-level shape e = envelope-level-is (shaped_in shape e) (shape % 16) (omega arith) refl
