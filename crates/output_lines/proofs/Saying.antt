-- The lines' texts, text after text in 32 bytes: they fit, and none is empty. Assumes nothing.
use mathlib.Core.Bool.{cond}
use mathlib.Core.Path.{◌≡◌, refl, ap, ◌∙◌}
use mathlib.Core.List.{List, [], ◌∷◌, ◌++◌}
use Prim.Native.Nat.{ℕ, suc, ◌+◌, ◌^◌, ◌≤◌, ◌<◌}
use native.Mathlib.Omega.{arith}
use borrow.Author.Tests.{eq-eqb, ne_eqb}
use lib.Dec.{eqb}
use lib.ListN.{length, take, drop, replicate, length-append}
use lib.Seq.{take_at}
use Rattle.text_lines.specs.Bytes.{bytes}
use Rattle.text_put.specs.Text.{decimal_text, number_text}
use Rattle.text_put.proofs.Following.{Holds, then, number-few}
use Rattle.text_put.proofs.Laying.{laid-over, place-over, over-long}
use Rattle.text_put.proofs.Putting.{Put}
use Rattle.output_lines.specs.Lines.{refusal_text, total_text, left_text}

-- how long each can be
named-few : (j : ℕ) (name : List ℕ) (number end : ℕ) → number < 10 ^ suc j → length name + (suc j + 1) ≤ 32 → length (name ++ number_text number end) ≤ 32
named-few j name number end h k = omega (arith, length-append name (number_text number end), number-few j number end h)

pub total-few : (words : ℕ) → words < 2 ^ 32 → length (total_text words) ≤ 32
unfolding total_text
total-few words h = named-few 9 (bytes "words=") words _ (omega arith) (omega arith)

pub left-few : (writes : ℕ) → writes < 2 ^ 32 → length (left_text writes) ≤ 32
unfolding left_text
left-few writes h = named-few 9 (bytes "left=") writes _ (omega arith) (omega arith)

pub refusal-few : (number line : ℕ) → number < 256 → line < 2 ^ 32 → length (refusal_text number line) ≤ 32
unfolding refusal_text
refusal-few number line h k =
    let two = number_text number 32 in
    let four = number_text line 10 in
    omega (
      arith,
      length-append (bytes "refused=" ++ two ++ bytes "line=") four,
      length-append (bytes "refused=" ++ two) (bytes "line="),
      length-append (bytes "refused=") two,
      number-few 2 number 32 (omega arith),
      number-few 9 line 10 (omega arith),
    )

-- none is empty: each ends in a number
ends_some : (front : List ℕ) (number end : ℕ) → front ++ number_text number end ≡ [] → ⊥
ends_some front number end e =
    let z : length (front ++ number_text number end) ≡ 0 = ap length e in
    omega (arith, length-append front (number_text number end), length-append (decimal_text number) (end ∷ []), z)

pub total-some : (words : ℕ) → total_text words ≡ [] → ⊥
unfolding total_text
total-some words = ends_some (bytes "words=") words _

pub left-some : (writes : ℕ) → left_text writes ≡ [] → ⊥
unfolding left_text
left-some writes = ends_some (bytes "left=") writes _

pub refusal-some : (number line : ℕ) → refusal_text number line ≡ [] → ⊥
unfolding refusal_text
refusal-some number line = ends_some (bytes "refused=" ++ number_text number 32 ++ bytes "line=") line _

abbrev zeros : List ℕ
zeros = replicate 32 0

-- of a line put into 32 bytes the first n are its text
pub record Said (text : List ℕ) (n : ℕ) (all : List ℕ) : Type 0 where
  pub room : n ≤ length all
  pub long : n ≡ length (take n all)
  pub is : take n all ≡ text

module _ (text : List ℕ) (few : length text ≤ 32) {n : ℕ} {all : List ℕ} (m : Holds zeros 0 text n all) where
  whole : n ≡ length text
  whole = m.is ∙ place-over zeros 0 text (omega arith) ∙ omega arith

  taken : take n all ≡ text
  taken = rw (whole, m.all, laid-over zeros 0 text (omega arith)) (take_at text (drop (0 + length text) zeros) (length text) refl)

  said : Said text n all
  said =
      record {
        room = rw (whole, m.all, laid-over zeros 0 text (omega arith)) (omega (arith, over-long zeros 0 text (omega arith)));
        long = rw taken whole;
        is = taken;
      }

pub named-said : (name : List ℕ) (number : ℕ) → length name ≤ 11 → number < 2 ^ 64 → {p q : ℕ} {after₁ after₂ : List ℕ} → Put zeros 0 name p after₁
    → Put after₁ p (number_text number 10) q after₂ → Said (name ++ number_text number 10) q after₂
named-said name number g h a b =
    let few = named-few 19 name number 10 (omega arith) (omega arith) in
    said (name ++ number_text number 10) few
    (then zeros 0 name (number_text number 10) (omega (arith, few)) (record { is = a.0; all = a.1 }) b.0 b.1)

pub refusal-said : (number line : ℕ) → number < 256 → line < 2 ^ 32 → {p₁ p₂ p₃ p₄ : ℕ} {after₁ after₂ after₃ after₄ : List ℕ}
    → Put zeros 0 (bytes "refused=") p₁ after₁ → Put after₁ p₁ (number_text number 32) p₂ after₂ → Put after₂ p₂ (bytes "line=") p₃ after₃
    → Put after₃ p₃ (number_text line 10) p₄ after₄ → Said (refusal_text number line) p₄ after₄
unfolding refusal_text
refusal-said number line h k a b c d =
    let one = bytes "refused=" in
    let two = number_text number 32 in
    let four = number_text line 10 in
    let all = refusal-few number line h k in
    let long₂ = length-append one two in
    let long₃ = length-append (one ++ two) (bytes "line=") in
    let long₄ = length-append (one ++ two ++ bytes "line=") four in
    let m₂ = then zeros 0 one two (omega (arith, long₂, long₃, long₄, all)) (record { is = a.0; all = a.1 }) b.0 b.1 in
    let m₃ = then zeros 0 (one ++ two) (bytes "line=") (omega (arith, long₃, long₄, all)) m₂ c.0 c.1 in
    said (one ++ two ++ bytes "line=" ++ four) all (then zeros 0 (one ++ two ++ bytes "line=") four (omega (arith, all)) m₃ d.0 d.1)

-- what is put of it is the line
pub said_put : (out : List ℕ) (at : ℕ) {text : List ℕ} {n : ℕ} {all : List ℕ} → Said text n all → {r : ℕ} {after : List ℕ}
    → Put out at (take n all) r after → Put out at text r after
said_put out at s p = (rw s.is at p.0, rw s.is at p.1)

-- a line that is chosen by a number: one where it is 0, the other where it is not
module _ (out : List ℕ) (number : ℕ) (a b : List ℕ) {r : ℕ} {after : List ℕ} where
  pub put-accepted : number ≡ 0 → Put out 0 a r after → Put out 0 (cond (eqb number 0) a b) r after
  put-accepted e p = rw (eq-eqb number 0 e) p

  pub put_refused : (number ≡ 0 → ⊥) → Put out 0 b r after → Put out 0 (cond (eqb number 0) a b) r after
  put_refused n p = rw (ne_eqb number 0 n) p
