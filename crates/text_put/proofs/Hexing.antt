-- A number's hex digits put into a buffer, the last first: `put_hex`' invariant and its moves. Assumes nothing.
use mathlib.Core.Path.{◌≡◌, sym, ◌∙◌}
use mathlib.Core.List.{List, [], ◌∷◌, ◌++◌, append_assoc}
use Prim.Native.Nat.{ℕ, zero, suc, ◌+◌, ◌-◌, ◌/◌, ◌%◌, ◌≤◌, ◌<◌}
use native.Mathlib.Omega.{arith}
use lib.ListN.{length, take, drop, get_or, set, length-set}
use lib.Seq.{take-suc, length-take-le, set-append_seam}
use Rattle.io.specs.Digits.{last_digits, hex_digit_ascii}
use Rattle.text_put.specs.Text.{hex_text, overlaid}
use Rattle.std.proofs.lemmas.Bool.Decides.{nat_tests}
use Rattle.text_put.proofs.Putting.{Put, put_all}
use Rattle.text_put.proofs.Spelling.{length_digits}

-- the digits from i on stand in the buffer, and what is left of the number gives those before
pub record Hexing (out₀ : List ℕ) (at n width : ℕ) (out : List ℕ) (rest i : ℕ) : Type 0 where
  pub room : at + width ≤ length out₀
  pub last : List ℕ
  pub split : i + length last ≡ width
  pub same : last_digits 16 i rest ++ last ≡ hex_text n width
  pub long : length out ≡ length out₀
  pub all : out ≡ overlaid out₀ (at + i) last

-- one more byte in front of those that are laid
laid-before : (out : List ℕ) (p g : ℕ) (last : List ℕ) → p < length out → set (overlaid out (suc p) last) p g ≡ overlaid out p (g ∷ last)
laid-before out p g last h =
    let z : suc p + length last ≡ p + length (g ∷ last) = omega arith in
    let tail : List ℕ = last ++ drop (p + length (g ∷ last)) out in
    let a : overlaid out (suc p) last ≡ take p out ++ (get_or out p 0 ∷ tail)
    = rw (z, take-suc out p 0 h) (simp append_assoc)
    in
    let s : set (take p out ++ (get_or out p 0 ∷ tail)) (length (take p out)) g ≡ take p out ++ (g ∷ tail)
    = set-append_seam (take p out) (get_or out p 0) tail g
    in
    rw a ((rw (length-take-le p out (omega arith)) at s) ∙ sym (append_assoc (take p out) (g ∷ last) (drop (p + length (g ∷ last)) out)))

module _ {out₀ : List ℕ} {at n width : ℕ} {out : List ℕ} {rest : ℕ} where
  on : (j : ℕ) (m : Hexing out₀ at n width out rest (suc j)) {g : ℕ} → g ≡ hex_digit_ascii (rest % 16) → Hexing out₀ at n width (set out (at + j) g) (rest / 16) j
  on j m {g} e =
      let z : at + suc j ≡ suc (at + j) = omega arith in
      let f : at + j < length out₀ = omega (arith, m.room, m.split) in
      record {
        room = m.room;
        last = g ∷ m.last;
        split = omega (arith, m.split);
        same = rw e (sym (append_assoc (last_digits 16 j (rest / 16)) (hex_digit_ascii (rest % 16) ∷ []) m.last) ∙ m.same);
        long = length-set out (at + j) g ∙ m.long;
        all = rw (m.all, z) (laid-before out₀ (at + j) g m.last f);
      }

  pub hexing-on : (i : ℕ) (m : Hexing out₀ at n width out rest i) → 0 < i → {g : ℕ} → g ≡ hex_digit_ascii (rest % 16)
      → Hexing out₀ at n width (set out (at + (i - 1)) g) (rest / 16) (i - 1)
  hexing-on zero m h e = absurd (omega arith)
  hexing-on (suc j) m h e = let z : suc j - 1 ≡ j = omega arith in rw z (on j m e)

  pub hexing-ends : (i : ℕ) (m : Hexing out₀ at n width out rest i) → i ≤ 0 → Put out₀ at (hex_text n width) (at + width) out
  hexing-ends zero m h =
      put_all out₀ at (hex_text n width) (omega (arith, m.room, length_digits 16 width n)) (omega (arith, length_digits 16 width n))
      (let z : at + 0 ≡ at = omega arith in rw (← m.same) (rw z at m.all))
  hexing-ends (suc j) m h = absurd (omega arith)

pub ruleset widths = (nat_tests, length_digits)
