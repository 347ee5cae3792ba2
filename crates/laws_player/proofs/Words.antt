-- Words one after another, and their lines. Assumes nothing.
use mathlib.Core.List.{[], ◌∷◌, ◌++◌}
use mathlib.Core.Path.{◌≡◌, refl, ap}
use Prim.Native.Nat.{ℕ, zero, suc, ◌+◌, ◌*◌, ◌≤◌}
use native.Mathlib.Omega.{arith}
use lib.ListN.{length, length-append}
use Rattle.text_put.specs.Text.{decimal_text, number_text}
use Rattle.text_put.proofs.Following.{number-few}
use Rattle.chip.specs.declared.Chip.{Chip}
use Rattle.chip.proofs.InRange.{InRange, core-runs}
use Rattle.clocking_word.specs.Word.{word_of}
use Rattle.clocking_word.proofs.Stepping.{stepped}
use Rattle.clocking_block.specs.Block.{after_one, after_words, words_of}
use Rattle.dump_words.specs.Words.{lines_of}
use Rattle.laws_in_range.proofs.CallsInRange.{words-kept}

one_kept : {c : Chip} → InRange c → InRange (after_one c)
unfolding after_words
one_kept h = words-kept 1 h

-- a word is at most 32,766, so its line has six bytes at most
pub lines-few : (n : ℕ) {c : Chip} → InRange c → length (lines_of (words_of n c)) ≤ 6 * n
unfolding lines_of words_of
lines-few zero h = omega arith
lines-few (suc n) {c} h =
    let w = (word_of c.core c.queue).word in
    let small : w ≤ 32766 = (stepped c.core c.queue (core-runs h) h.queue).small in
    let one : length (number_text w 10) ≤ 6 = number-few 4 w 10 (omega (arith, small)) in
    omega (arith, length-append (number_text w 10) (lines_of (words_of n (after_one c))), one, lines-few n (one_kept h))

pub no_lines : (n : ℕ) (c : Chip) → lines_of (words_of n c) ≡ [] → n ≡ 0
unfolding lines_of words_of
no_lines zero c e = refl
no_lines (suc n) c e =
    let w = (word_of c.core c.queue).word in
    let line = number_text w 10 in
    let long : length line ≡ length (decimal_text w) + 1 = length-append (decimal_text w) (10 ∷ []) in
    let z : length (line ++ lines_of (words_of n (after_one c))) ≡ 0 = ap length e in
    absurd (omega (arith, length-append line (lines_of (words_of n (after_one c))), long, z))
