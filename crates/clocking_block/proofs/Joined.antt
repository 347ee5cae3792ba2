-- Words and then more words. Assumes nothing.
use mathlib.Core.List.{List, ◌∷◌, ◌++◌}
use mathlib.Core.Path.{◌≡◌, refl, ap}
use Prim.Native.Nat.{ℕ, zero, suc, ◌+◌}
use native.Mathlib.Omega.{arith}
use lib.ListN.{length}
use Rattle.chip.specs.declared.Chip.{Chip}
use Rattle.clocking_word.specs.Word.{word_of}
use Rattle.clocking_block.specs.Block.{after_one, after_words, ticks_of, words_of}

pub words_long : (n : ℕ) (c : Chip) → length (words_of n c) ≡ n
unfolding words_of
words_long zero c = refl
words_long (suc n) c = ap suc (words_long n (after_one c))

pub after-split : (a b : ℕ) (c : Chip) → after_words (a + b) c ≡ after_words b (after_words a c)
unfolding after_words
after-split zero b c = let z : 0 + b ≡ b = omega arith in rw z
after-split (suc a) b c = let z : suc a + b ≡ suc (a + b) = omega arith in rw z (after-split a b (after_one c))

pub words-split : (a b : ℕ) (c : Chip) → words_of (a + b) c ≡ words_of a c ++ words_of b (after_words a c)
unfolding words_of after_words
words-split zero b c = let z : 0 + b ≡ b = omega arith in rw z
words-split (suc a) b c =
    let z : suc a + b ≡ suc (a + b) = omega arith in
    rw z (ap (λ (l : List ℕ). (word_of c.core c.queue).word ∷ l) (words-split a b (after_one c)))

pub ticks-split : (a b : ℕ) (c : Chip) → ticks_of (a + b) c ≡ ticks_of a c + ticks_of b (after_words a c)
unfolding ticks_of after_words
ticks-split zero b c = let z : 0 + b ≡ b = omega arith in rw z (omega arith)
ticks-split (suc a) b c =
    let z : suc a + b ≡ suc (a + b) = omega arith in
    let more = ticks-split a b (after_one c) in
    rw z (omega arith)
