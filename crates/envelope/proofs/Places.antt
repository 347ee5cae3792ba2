-- Positions as the machine holds them: a position of 32 bits is read back as it was stored. Assumes nothing.
use mathlib.Core.Bool.{true}
use mathlib.Core.Path.{◌≡◌, refl, ap, ◌∙◌}
use Prim.Native.Nat.{ℕ, zero, suc, ◌+◌, ◌≤◌, ◌<◌}
use native.Mathlib.Omega.{arith}
use borrow.Author.Tests.{ltb-true, leb-true, le-ltb}
use lib.Dec.{T}
use lib.IntN.{ℤ, pos, negsuc, nat_abs, ◌+ℤ◌, +ℤ_one}
use lib.Signed.{mag, lt_z, non_neg}
use mir.Facts.{to_z-of_z}
use mir.Syntax.{w32, w64}
use mir.Val.{Fits, SFits, to_z, of_z}
use Rattle.laws.proofs.Tests.{by_cond, on-le}
use Rattle.envelope.specs.declared.Envelope.{Envelope}
use Rattle.envelope.specs.Envelope.{next_position, envelope_tick, row_place}
use Rattle.envelope.specs.Range.{PositionInRange}

pub same : (p : ℤ) → SFits w32 p → to_z w32 (of_z w32 p) ≡ p
same p h = to_z-of_z h

-- one more than a position below n
up_fits : (p : ℤ) (n : ℕ) → n ≤ 2147483647 → SFits w32 p → lt_z p (pos n) ≡ true → SFits w32 (p +ℤ pos 1)
up_fits (pos m) n k h e = record { sfits = omega (arith, ltb-true m n e) }
up_fits (negsuc zero) n k h e = record { sfits = omega arith }
up_fits (negsuc (suc m)) n k h e = rw (+ℤ_one (negsuc (suc m))) (record { sfits = omega (arith, h.sfits) })

module _ (p : ℤ) (n : ℕ) (k : n ≤ 2147483647) (h : SFits w32 p) (e : lt_z (to_z w32 (of_z w32 p)) (pos n) ≡ true) where
  below : lt_z p (pos n) ≡ true
  below = rw (same p h) at e

  -- fits, and is what is read back
  pub next_fits : SFits w32 (to_z w32 (of_z w32 p) +ℤ pos 1)
  next_fits = rw (same p h) (up_fits p n k h below)

  pub next-back : to_z w32 (of_z w32 (to_z w32 (of_z w32 p) +ℤ pos 1)) ≡ p +ℤ pos 1
  next-back = to_z-of_z next_fits ∙ rw (same p h)

next_small : (p : ℤ) → SFits w32 p → SFits w32 (next_position p)
unfolding next_position
next_small p h = by_cond (λ (z : ℤ). SFits w32 z) (lt_z p (pos 63)) _ _ (λ e. up_fits p 63 (omega arith) h e) (λ e. record { sfits = omega arith })

-- the position that a tick stores is the rule's
pub late : (e : Envelope) (r : ℤ) → mag e.position < 2147483648 → r ≡ next_position (to_z w32 (of_z w32 e.position)) → e.period ≤ e.counter + 1
    → record { counter = 0; period = e.period; position = to_z w32 (of_z w32 r); offset = e.offset } ≡ envelope_tick e
unfolding envelope_tick
late e r h q k =
    let f : SFits w32 e.position = record { sfits = h } in
    let s : r ≡ next_position e.position = q ∙ ap next_position (same e.position f) in
    let t : to_z w32 (of_z w32 r) ≡ next_position e.position = ap (λ (z : ℤ). to_z w32 (of_z w32 z)) s ∙ same (next_position e.position) (next_small e.position f) in
    on-le e.period (e.counter + 1) _ _ _ k (cc)

-- positions -64..63, and their places 0..127
mag-le : (p : ℤ) → PositionInRange p → mag p ≤ 63
mag-le (pos n) h = leb-true n 63 h.to
mag-le (negsuc n) h = leb-true n 63 h.from

plain : (p : ℤ) → mag p ≤ 63 → p +ℤ pos 64 ≡ pos (row_place p)
unfolding row_place
plain (pos n) h = refl
plain (negsuc n) h = rw (le-ltb 64 (suc n) (omega arith))

pub place-lt : (p : ℤ) → PositionInRange p → row_place p < 128
unfolding row_place
place-lt (pos n) r = omega (arith, mag-le (pos n) r)
place-lt (negsuc n) r = rw (le-ltb 64 (suc n) (omega (arith, mag-le (negsuc n) r))) (omega arith)

module _ (p : ℤ) (r : PositionInRange p) where
  pub fits : SFits w32 p
  fits = record { sfits = omega (arith, mag-le p r) }

  place-sum : to_z w32 (of_z w32 p) +ℤ pos 64 ≡ pos (row_place p)
  place-sum = rw (same p fits) (plain p (mag-le p r))

  pub place-fits : SFits w32 (to_z w32 (of_z w32 p) +ℤ pos 64)
  place-fits = rw place-sum (record { sfits = omega (arith, place-lt p r) })

  pub place-back : to_z w32 (of_z w32 (to_z w32 (of_z w32 p) +ℤ pos 64)) ≡ pos (row_place p)
  place-back = to_z-of_z place-fits ∙ place-sum

  pub place-cast : (z : ℤ) → z ≡ pos (row_place p) → T (non_neg z) × Fits w64 (nat_abs z)
  place-cast z e = rw e (tt, record { fits = omega (arith, place-lt p r) })

  -- the position that is passed on is the one stored
  pub placed : {n : ℕ} → n ≡ row_place (to_z w32 (of_z w32 p)) → n ≡ row_place p
  placed e = e ∙ ap row_place (same p fits)
