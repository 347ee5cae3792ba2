-- What a call leaves that puts a text; and a number's digits with the byte that ends them. Assumes nothing.
use mathlib.Core.Path.{◌≡◌, sym, ap, ◌∙◌}
use mathlib.Core.List.{List, [], ◌∷◌, ◌++◌, append_assoc}
use Prim.Native.Nat.{ℕ, suc, ◌+◌, ◌^◌, ◌≤◌, ◌<◌}
use native.Mathlib.Omega.{arith}
use lib.ListN.{length, take, drop, get_or, set, length-append}
use lib.Seq.{drop-cons, set-append_seam, length-take-le}
use Rattle.io.specs.Digits.{IsDigitCount, last_digits}
use Rattle.text_put.specs.Text.{decimal_text, number_text, overlaid, laid, place_after}
use Rattle.text_put.proofs.Laying.{laid-over, place-over, over-paste}
use Rattle.std.proofs.lemmas.Bool.Decides.{nat_tests}
use Rattle.std.proofs.lemmas.Slice.{put_mid-paste}
use Rattle.text_put.proofs.Spelling.{spelled, decimal-long}

-- the answer and the buffer at exit
abbrev pub Put : List ℕ → ℕ → List ℕ → ℕ → List ℕ → Type 0
Put out at bytes r after = (r ≡ place_after out at bytes) × (after ≡ laid out at bytes)

pub put_all : (out : List ℕ) (at : ℕ) (bytes : List ℕ) → at + length bytes ≤ length out → {r : ℕ} → r ≡ at + length bytes → {after : List ℕ}
    → after ≡ overlaid out at bytes → Put out at bytes r after
put_all out at bytes h e p = (e ∙ sym (place-over out at bytes h), p ∙ sym (laid-over out at bytes h))

-- what `io::decimal` wrote is put as it stands
pub decimal-put : (out text : List ℕ) (at : ℕ) {n k r : ℕ} {after : List ℕ} → n < 2 ^ 64 → IsDigitCount 10 1 n k → take k text ≡ last_digits 10 k n
    → r ≡ place_after out at (take k text) → after ≡ laid out at (take k text) → Put out at (decimal_text n) r after
decimal-put out text at h f e p q = let s = spelled h f e in (rw s.same at p, rw s.same at q)

-- one byte more, right after those that are laid
laid-after : (out : List ℕ) (at : ℕ) (text : List ℕ) (end : ℕ) → at + length text < length out
    → set (overlaid out at text) (at + length text) end ≡ overlaid out at (text ++ (end ∷ []))
laid-after out at text end h =
    let front : List ℕ = take at out ++ text in
    let long : length front ≡ at + length text = length-append (take at out) text ∙ ap (λ (k : ℕ). k + length text) (length-take-le at out (omega arith)) in
    let z : at + length (text ++ (end ∷ [])) ≡ suc (at + length text) = omega (arith, length-append text (end ∷ [])) in
    let s : set (front ++ (get_or out (at + length text) 0 ∷ drop (suc (at + length text)) out)) (length front) end ≡ front ++ (end ∷ drop (suc (at + length text)) out)
    = set-append_seam front (get_or out (at + length text) 0) (drop (suc (at + length text)) out) end
    in
    rw (z, drop-cons out (at + length text) 0 h) ((rw long at s) ∙ simp append_assoc)

-- a number's digits, and the byte that ends them
module _ (out text : List ℕ) (at : ℕ) {n k : ℕ} (h : n < 2 ^ 64) (f : IsDigitCount 10 1 n k) where
  pub number-long : (end : ℕ) → length (number_text n end) ≡ k + 1
  number-long end = length-append (decimal_text n) (end ∷ []) ∙ rw (decimal-long k n h f)

  module _ (e : take k text ≡ last_digits 10 k n) (room : at + k < length out) {last : ℕ} (p : last ≡ place_after out at (take k text)) where
    last-is : last ≡ at + k
    last-is =
        let s = spelled h f e in
        (rw s.same at p) ∙ place-over out at (decimal_text n) (omega (arith, s.long)) ∙ ap (λ (l : ℕ). at + l) s.long

    pub last-inside : last < length out
    last-inside = omega (arith, last-is)

    pub number-put : (end : ℕ) {after : List ℕ} → after ≡ laid out at (take k text) → Put out at (number_text n end) (last + 1) (set after last end)
    number-put end {after} q =
        let s = spelled h f e in
        let put : after ≡ overlaid out at (decimal_text n) = (rw s.same at q) ∙ laid-over out at (decimal_text n) (omega (arith, s.long)) in
        let l : last ≡ at + length (decimal_text n) = omega (arith, last-is, s.long) in
        put_all out at (number_text n end) (omega (arith, number-long end)) (omega (arith, number-long end, last-is)) (rw (put, l) (laid-after out at (decimal_text n) end (omega (arith, s.long))))

pub ruleset puts = (nat_tests, put_mid-paste, over-paste)

pub ruleset lengths = (nat_tests, number-long)
