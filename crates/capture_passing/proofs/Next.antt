-- The next word's number, and what is passed before it: `pass_due`'s returns. Assumes nothing.
use mathlib.Core.Bool.{Bool, true, false, not}
use mathlib.Core.List.{List}
use mathlib.Core.Path.{◌≡◌, sym, ap, ◌∙◌}
use Prim.Native.Nat.{ℕ, ◌^◌, ◌≤◌, ◌<◌}
use native.Mathlib.Omega.{arith}
use borrow.Author.Tests.{not-true, not-false, eq-eqb, ne_eqb}
use Rattle.std.specs.Prelude.{Ok, Err}
use Rattle.refusals.specs.Numbers.{accepted, out_of_range, number_of, answer_no}
use Rattle.refusals.specs.declared.Refusal.{Refusal}
use Rattle.block_limits.specs.Limits.{accept_block, block_number}
use Rattle.block_limits.proofs.Fits.{fits, in-time}
use Rattle.chip.specs.declared.Chip.{Chip}
use Rattle.chip.specs.Range.{chip_in}
use Rattle.chip.proofs.InRange.{InRange, passes, core-runs}
use Rattle.clocking_word.specs.Word.{end_of}
use Rattle.calls_words.specs.Blocks.{block_no}
use Rattle.capture_passing.specs.Due.{stopped, pass_from, word_no, pass_due_from}
use Rattle.capture_passing.specs.declared.Passing.{Passing}

-- the number of a block of one word, as the test of it says
module _ (c : Chip) where
  pub block-refused : (why : Refusal) → Err why ≡ accept_block 1 c.core.start c.core.clocks.cycles → number_of why ≡ block_no 1 c
  unfolding block_number
  block-refused why e = ap answer_no e

  pub block-taken : {u : Unit {0}} → Ok u ≡ accept_block 1 c.core.start c.core.clocks.cycles → accepted ≡ block_no 1 c
  unfolding block_number
  block-taken e = ap answer_no e

-- a word's cycles fit 32 bits, and its end fits 64
pub cycles-fit : {c : Chip} → InRange c → c.core.clocks.cycles ≤ 4294967295
cycles-fit h = let k = (core-runs h).cycles in omega (arith, k)

pub end_fits : (c : Chip) {no : ℕ} → no ≡ block_no 1 c → no ≡ accepted → end_of c.core < 2 ^ 64
end_fits c e z = let f = fits 1 c.core.start c.core.clocks.cycles (sym e ∙ z) in omega (arith, f.soon)

-- of a chip in range whose next word ends by cycle 2^64 - 1, that word can be rendered
pub word-can : {c : Chip} → InRange c → end_of c.core < 2 ^ 64 → word_no c ≡ accepted
word-can {c} h soon =
    rw (passes h) (in-time 1 c.core.start c.core.clocks.cycles (omega arith) (omega arith))

module _ (text : List ℕ) (writes at : ℕ) (c : Chip) {r : Bool} (is : r ≡ chip_in c) where
  pub due-out : {p : Passing} → not r ≡ true → p ≡ stopped c at writes out_of_range → p ≡ pass_due_from text writes at c
  unfolding pass_due_from
  due-out out e = let no : chip_in c ≡ false = sym is ∙ not-true r out in rw no e

  module _ (within : not r ≡ false) {no : ℕ} (number : no ≡ block_no 1 c) where
    test : chip_in c ≡ true
    test = sym is ∙ not-false r within

    pub due-stops : {p : Passing} → (no ≡ accepted → ⊥) → p ≡ stopped c at writes no → p ≡ pass_due_from text writes at c
    unfolding pass_due_from
    due-stops n e = rw (test, ne_eqb (block_no 1 c) accepted (rw number at n)) (rw number at e)

    pub due-passed : {p : Passing} → no ≡ accepted → p ≡ pass_from text (end_of c.core) writes at c → p ≡ pass_due_from text writes at c
    unfolding pass_due_from
    due-passed z e = rw (test, eq-eqb (block_no 1 c) accepted (rw number at z)) e
