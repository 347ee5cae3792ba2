-- An accepted block: the tests that it has passed, and what it does as a call. Assumes nothing.
use mathlib.Core.Bool.{Bool, true, false, cond}
use mathlib.Core.List.{List}
use mathlib.Core.Path.{◌≡◌, refl, ap}
use Prim.Native.Nat.{ℕ, zero, suc, ◌+◌, ◌*◌, ◌^◌, ◌<◌}
use native.Mathlib.Nat.{suc-mul, add-mul}
use native.Mathlib.Omega.{arith}
use borrow.Author.Tests.{eq-eqb}
use lib.Dec.{eqb}
use lib.ListN.{length}
use Rattle.refusals.specs.Numbers.{accepted, out_of_range}
use Rattle.laws.proofs.Tests.{by-eq}
use Rattle.chip.specs.declared.Chip.{Chip}
use Rattle.chip.specs.Range.{chip_in}
use Rattle.clocking_word.specs.Word.{word_of}
use Rattle.clocking_block.specs.Block.{after_one, after_words, words_of}
use Rattle.block_limits.specs.Limits.{block_number}
use Rattle.block_limits.proofs.Fits.{fits, in-time}
use Rattle.answers.specs.declared.Blocked.{Blocked}
use Rattle.calls_words.specs.Blocks.{block_no, block_played, block_refused, blocked, block_buffer}
use Rattle.calls_words.proofs.Accepted.{buffer-words}
use Rattle.laws_promises.specs.History.{block, answers, entries, Ledger, renders, enters, entered}

-- where the next word starts
pub words-start : (n : ℕ) (c : Chip) → (after_words n c).core.start ≡ c.core.start + n * c.core.clocks.cycles
unfolding after_words word_of
words-start zero c = omega arith
words-start (suc n) c =
    let k = c.core.clocks.cycles in
    let s : (after_words n (after_one c)).core.start ≡ c.core.start + k + n * k = words-start n (after_one c) in
    rw suc-mul (omega (arith, s))

-- a block's two tests, and what it does when it passes
passed : (n : ℕ) (c : Chip) (number : ℕ) (t : Bool)
    → (cond t (cond (eqb number accepted) (block_played n c) (block_refused number c)) (block_refused out_of_range c)).answer.no ≡ accepted
    → (t ≡ true) × (number ≡ accepted)
passed n c number true e =
    (refl, by-eq (λ (b : Blocked). b.answer.no ≡ accepted → number ≡ accepted) number accepted (λ z _. z) (λ _ z. z) e)
passed n c number false e = absurd (omega arith)

pub block-passed : (n : ℕ) (c : Chip) → (blocked n c).answer.no ≡ accepted → (chip_in c ≡ true) × (block_no n c ≡ accepted)
unfolding blocked
block-passed n c e = passed n c (block_no n c) (chip_in c) e

pub block-plays : (n : ℕ) (c : Chip) → chip_in c ≡ true → block_no n c ≡ accepted → blocked n c ≡ block_played n c
unfolding blocked
block-plays n c t e = rw (t, eq-eqb _ accepted e)

-- the parts of a block in time are in time
pub parts-in-time : (m n start cycles : ℕ) → block_number (m + n) start cycles ≡ accepted
    → (block_number m start cycles ≡ accepted) × (block_number n (start + m * cycles) cycles ≡ accepted)
parts-in-time m n start cycles e =
    let f = fits (m + n) start cycles e in
    let z : (m + n) * cycles ≡ m * cycles + n * cycles = add-mul m n cycles in
    let soon : start + (m * cycles + n * cycles) < 2 ^ 64 = rw z at f.soon in
    (in-time m start cycles (omega (arith, f.short)) (omega (arith, soon)), in-time n (start + m * cycles) cycles (omega (arith, f.short)) (omega (arith, soon)))

pub block-in-range : (out : List ℕ) (c : Chip) → (answers (block out) c).no ≡ accepted → chip_in c ≡ true
unfolding answers
block-in-range out c e = (block-passed (length out) c e).0

-- an accepted block as a call
module _ (out : List ℕ) (c : Chip) (e : blocked (length out) c ≡ block_played (length out) c) where
  pub block-fine : (answers (block out) c).no ≡ accepted
  unfolding answers
  block-fine = ap (λ (b : Blocked). b.answer.no) e

  pub block-leaves : (answers (block out) c).chip ≡ after_words (length out) c
  unfolding answers
  block-leaves = ap (λ (b : Blocked). b.chip) e

  pub block-enters : (l : Ledger) → entered (block out) c l ≡ renders (entries (length out) c) l
  unfolding entered enters
  block-enters l = rw block-fine

  pub block-hands : block_buffer out c ≡ words_of (length out) c
  block-hands = buffer-words out c (ap (λ (b : Blocked). b.answer.no) e)
