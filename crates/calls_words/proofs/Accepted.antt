-- An accepted block leaves its words in the buffer. Assumes nothing.
use mathlib.Core.Bool.{Bool, true, false, cond}
use mathlib.Core.List.{List}
use mathlib.Core.Path.{◌≡◌, refl, ◌∙◌}
use Prim.Native.Nat.{ℕ}
use native.Mathlib.Omega.{arith}
use borrow.Author.Tests.{eq-eqb}
use lib.Dec.{eqb}
use lib.ListN.{length}
use Rattle.refusals.specs.Numbers.{accepted, out_of_range}
use Rattle.chip.specs.declared.Chip.{Chip}
use Rattle.chip.specs.Range.{chip_in}
use Rattle.clocking_block.specs.Block.{words_of}
use Rattle.calls_words.specs.Blocks.{block_no, block_played, block_refused, blocked, block_buffer}

chosen : (n : ℕ) (c : Chip) (words out : List ℕ) (number : ℕ) (t s : Bool) → s ≡ eqb number accepted
    → (cond t (cond s (block_played n c) (block_refused number c)) (block_refused out_of_range c)).answer.no ≡ accepted
    → cond t (cond s words out) out ≡ words
chosen n c words out number true true e z = refl
chosen n c words out number true false e z = let q : false ≡ true = e ∙ eq-eqb number accepted z in cc
chosen n c words out number false s e z = absurd (omega arith)

pub buffer-words : (out : List ℕ) (c : Chip) → (blocked (length out) c).answer.no ≡ accepted → block_buffer out c ≡ words_of (length out) c
unfolding blocked block_buffer
buffer-words out c e = chosen (length out) c _ out (block_no (length out) c) (chip_in c) _ refl e
