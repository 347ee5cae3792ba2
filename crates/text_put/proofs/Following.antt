-- Text after text in one buffer. Assumes nothing.
use mathlib.Core.Path.{◌≡◌, ◌∙◌}
use mathlib.Core.List.{List, ◌++◌}
use Prim.Native.Nat.{ℕ, suc, ◌+◌, ◌^◌, ◌≤◌, ◌<◌}
use native.Mathlib.Omega.{arith}
use lib.ListN.{length, length-append}
use Rattle.text_put.specs.Text.{number_text, overlaid, laid, place_after}
use Rattle.text_put.proofs.Laying.{laid-over, place-over, over-over, over-long}
use Rattle.text_put.proofs.Spelling.{spelt-few}

-- what is put after a text is put after all of it
module _ (out : List ℕ) (at : ℕ) (a b : List ℕ) (h : at + length (a ++ b) ≤ length out) where
  both-fit : at + length a + length b ≤ length out
  both-fit = omega (arith, length-append a b)

  front_fits : at + length a ≤ length out
  front_fits = omega (arith, both-fit)

  rest-fits : at + length a + length b ≤ length (overlaid out at a)
  rest-fits = omega (arith, both-fit, over-long out at a front_fits)

  pub then-place : place_after (laid out at a) (place_after out at a) b ≡ place_after out at (a ++ b)
  then-place =
      rw (laid-over out at a front_fits, place-over out at a front_fits, place-over (overlaid out at a) (at + length a) b rest-fits, place-over out at (a ++ b) h)
      (omega (arith, length-append a b))

  pub then-laid : laid (laid out at a) (place_after out at a) b ≡ laid out at (a ++ b)
  then-laid =
      rw (laid-over out at a front_fits, place-over out at a front_fits, laid-over (overlaid out at a) (at + length a) b rest-fits, laid-over out at (a ++ b) h)
      (over-over out at a b front_fits)

-- the place and the bytes after a text
pub record Holds (out : List ℕ) (at : ℕ) (text : List ℕ) (place : ℕ) (after : List ℕ) : Type 0 where
  pub is : place ≡ place_after out at text
  pub all : after ≡ laid out at text

pub then : (out : List ℕ) (at : ℕ) (a b : List ℕ) → at + length (a ++ b) ≤ length out → {p : ℕ} {after₁ : List ℕ} → Holds out at a p after₁
    → {q : ℕ} {after₂ : List ℕ} → q ≡ place_after after₁ p b → after₂ ≡ laid after₁ p b → Holds out at (a ++ b) q after₂
then out at a b h m e f =
    record { is = (rw (m.is, m.all) at e) ∙ then-place out at a b h; all = (rw (m.is, m.all) at f) ∙ then-laid out at a b h }

-- a number with its end byte, in digits
pub number-few : (j n end : ℕ) → n < 10 ^ suc j → length (number_text n end) ≤ suc j + 1
number-few j n end h = rw length-append (omega (arith, spelt-few 19 j n h))
