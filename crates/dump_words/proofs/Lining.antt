-- Words put line after line: `put_words`' invariant and its moves. Assumes nothing.
use mathlib.Core.Path.{◌≡◌, refl, sym, ap, ◌∙◌}
use mathlib.Core.List.{List, [], ◌∷◌, ◌++◌, append_assoc, append-nil}
use Prim.Native.Nat.{ℕ, ◌+◌, ◌-◌, ◌*◌, ◌/◌, ◌≤◌, ◌<◌}
use native.Mathlib.Numerals.{add-one}
use native.Mathlib.Omega.{arith}
use borrow.Author.Tests.{le-leb}
use lib.ListN.{length, take, get_or, length-append}
use lib.Seq.{take-suc, take_all}
use Rattle.text_put.specs.Text.{number_text, overlaid, laid, place_after}
use Rattle.dump_words.specs.Words.{lines_of, words_laid, words_place}
use Rattle.text_put.proofs.Laying.{laid-over, place-over, over_none, over-over, over-long}
use Rattle.text_put.proofs.Spelling.{spelt-few}

abbrev pub Lined : List ℕ → ℕ → List ℕ → ℕ → List ℕ → Type 0
Lined out at words r after = (r ≡ words_place out at words) × (after ≡ words_laid out at words)

pub lines_join : (a b : List ℕ) → lines_of (a ++ b) ≡ lines_of a ++ lines_of b
unfolding lines_of
lines_join [] b = refl
lines_join (w ∷ a) b = ap (λ (l : List ℕ). number_text w 10 ++ l) (lines_join a b) ∙ sym (append_assoc (number_text w 10) (lines_of a) (lines_of b))

lines-one : (w : ℕ) → lines_of (w ∷ []) ≡ number_text w 10
unfolding lines_of
lines-one w = append-nil (number_text w 10)

lines-on : (words : List ℕ) (i : ℕ) → i < length words → lines_of (take (i + 1) words) ≡ lines_of (take i words) ++ number_text (get_or words i 0) 10
lines-on words i h = rw (add-one, take-suc words i 0 h, lines_join (take i words) (get_or words i 0 ∷ []), lines-one (get_or words i 0))

-- a word has five digits at most
word-few : (w : ℕ) → w < 65536 → length (number_text w 10) ≤ 6
word-few w h = rw length-append (omega (arith, spelt-few 19 4 w (omega arith)))

-- the first i words have their lines, and there is room for all
pub record Lining (out₀ : List ℕ) (at : ℕ) (words out : List ℕ) (place i : ℕ) : Type 0 where
  pub room : at + 6 * length words ≤ length out₀
  pub some : i ≤ length words
  pub few : length (lines_of (take i words)) ≤ 6 * i
  pub is : place ≡ at + length (lines_of (take i words))
  pub all : out ≡ overlaid out₀ at (lines_of (take i words))

pub lining-start : {out : List ℕ} {at : ℕ} (words : List ℕ) → at ≤ length out → length words ≤ (length out - at) / 6 → Lining out at words out at 0
unfolding lines_of
lining-start {out} {at} words h g =
    record { room = omega arith; some = omega arith; few = omega arith; is = omega arith; all = over_none out at }

module _ {out₀ : List ℕ} {at : ℕ} {words out : List ℕ} {place i : ℕ} (m : Lining out₀ at words out place i) where
  -- the buffer keeps its length
  pub lining-long : length out ≡ length out₀
  lining-long = rw m.all (over-long out₀ at (lines_of (take i words)) (omega (arith, m.room, m.some, m.few)))

  module _ (h : i < length words) (w : get_or words i 0 < 65536) {r : ℕ} {after : List ℕ} (p : r ≡ place_after out place (number_text (get_or words i 0) 10))
      (q : after ≡ laid out place (number_text (get_or words i 0) 10)) where
    line : List ℕ
    line = number_text (get_or words i 0) 10

    fit : place + length (number_text (get_or words i 0) 10) ≤ length out
    fit = omega (arith, m.room, m.few, m.is, word-few (get_or words i 0) w, lining-long)

    long : length (lines_of (take (i + 1) words)) ≡ length (lines_of (take i words)) + length (number_text (get_or words i 0) 10)
    long = ap length (lines-on words i h) ∙ length-append (lines_of (take i words)) (number_text (get_or words i 0) 10)

    pub lining-on : Lining out₀ at words after r (i + 1)
    lining-on =
        record {
          room = m.room;
          some = omega arith;
          few = omega (arith, long, m.few, word-few (get_or words i 0) w);
          is = p ∙ place-over out place _ fit ∙ omega (arith, long, m.is);
          all = q ∙ laid-over out place _ fit
              ∙ rw (lines-on words i h, m.all, m.is) (over-over out₀ at (lines_of (take i words)) (number_text (get_or words i 0) 10) (omega (arith, m.room, m.some, m.few)));
        }

  pub lining_ends : length words ≤ i → Lined out₀ at words place out
  unfolding words_place words_laid
  lining_ends h =
      let z : take i words ≡ words = take_all i words h in
      let s : place ≡ at + length (lines_of words) = rw z at m.is in
      let t : out ≡ overlaid out₀ at (lines_of words) = rw z at m.all in
      (rw (le-leb (at + 6 * length words) (length out₀) m.room) s, rw (le-leb (at + 6 * length words) (length out₀) m.room) t)
