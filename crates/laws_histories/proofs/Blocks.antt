-- An accepted block is the same history in parts: words come one after the other, and a part ends no later. Assumes nothing.
use mathlib.Core.List.{List, [], ◌∷◌, ◌++◌, map}
use mathlib.Core.Path.{◌≡◌, sym, ap, ◌∙◌}
use Prim.Native.Nat.{ℕ}
use lib.ListN.{length, length-append}
use Rattle.refusals.specs.Numbers.{accepted}
use Rattle.chip.specs.declared.Chip.{Chip}
use Rattle.chip.proofs.InRange.{InRange, passes}
use Rattle.clocking_block.specs.Block.{after_words, words_of}
use Rattle.calls_words.specs.Blocks.{block_no, block_played, blocked, block_buffer}
use Rattle.laws_promises.specs.History.{block, answers, after, Entry, entries, Ledger, renders, entered, ledger}
use Rattle.laws_promises.proofs.Words.{rendered}
use Rattle.laws_histories.specs.Histories.{joined, handed}
use Rattle.laws_histories.specs.Claims.{BlocksJoin}
use Rattle.laws_histories.proofs.Joining.{words_append, chip-append, entries-append, renders-append, renders-none}
use Rattle.laws_histories.proofs.Accepted.{words-start, block-passed, block-plays, parts-in-time, block-fine, block-leaves, block-enters, block-hands}

module _ (a b : List ℕ) (c : Chip) (h : InRange c) (e : (answers (block (a ++ b)) c).no ≡ accepted) where
  abbrev d : Chip
  d = after_words (length a) c

  whole-no : block_no (length (a ++ b)) c ≡ accepted
  unfolding answers
  whole-no = (block-passed (length (a ++ b)) c e).1

  parts-no : (block_no (length a) c ≡ accepted) × (block_no (length b) d ≡ accepted)
  parts-no =
      let p = parts-in-time (length a) (length b) c.core.start c.core.clocks.cycles (rw (length-append a b) at whole-no) in
      (p.0, rw (words-start (length a) c, (rendered (length a) c h).clocks) p.1)

  whole : blocked (length (a ++ b)) c ≡ block_played (length (a ++ b)) c
  whole = block-plays (length (a ++ b)) c (passes h) whole-no

  first : blocked (length a) c ≡ block_played (length a) c
  first = block-plays (length a) c (passes h) parts-no.0

  second : blocked (length b) d ≡ block_played (length b) d
  second = block-plays (length b) d (passes (rendered (length a) c h).ok) parts-no.1

  -- one block, and the other on the chip that it leaves
  two-fine : ((answers (block a) c).no ≡ accepted) × ((answers (block b) d).no ≡ accepted)
  two-fine = (block-fine a c first, block-fine b d second)

  one-leaves : (answers (block a) c).chip ≡ d
  one-leaves = block-leaves a c first

  two-leave : (answers (block b) d).chip ≡ (answers (block (a ++ b)) c).chip
  two-leave = block-leaves b d second ∙ sym (chip-append a b c) ∙ sym (block-leaves (a ++ b) c whole)

  two-enter : (l : Ledger) → entered (block b) d (entered (block a) c l) ≡ entered (block (a ++ b)) c l
  two-enter l =
      block-enters b d second (entered (block a) c l)
      ∙ ap (renders (entries (length b) d)) (block-enters a c first l)
      ∙ sym (renders-append (entries (length a) c) (entries (length b) d) l)
      ∙ ap (λ (ws : List Entry). renders ws l) (sym (entries-append a b c))
      ∙ sym (block-enters (a ++ b) c whole l)

  two-hand : block_buffer a c ++ block_buffer b d ≡ block_buffer (a ++ b) c
  two-hand = rw (block-hands a c first, block-hands b d second, block-hands (a ++ b) c whole) (sym (words_append a b c))

pub blocks-join : (outs : List (List ℕ)) (c : Chip) → InRange c → (answers (block (joined outs)) c).no ≡ accepted → (l : Ledger) → BlocksJoin outs c l
unfolding after ledger after_words words_of entries
blocks-join [] c h e l =
    let w = whole [] [] c h e in
    record {
      each = tt;
      chip = sym (block-leaves [] c w);
      entries = sym (block-enters [] c w l ∙ renders-none l);
      words = sym (block-hands [] c w);
    }
blocks-join (a ∷ outs) c h e l =
    let b = joined outs in
    let d = after_words (length a) c in
    let fine = two-fine a b c h e in
    let left = one-leaves a b c h e in
    let rest = blocks-join outs d (rendered (length a) c h).ok fine.1 (entered (block a) c l) in
    record {
      each = (fine.0, rw left rest.each);
      chip = ap (after (map block outs)) left ∙ rest.chip ∙ two-leave a b c h e;
      entries = ap (λ (x : Chip). ledger (map block outs) x (entered (block a) c l)) left ∙ rest.entries ∙ two-enter a b c h e l;
      words =
          ap (λ (x : Chip). block_buffer a c ++ handed outs x) left
          ∙ ap (λ (ws : List ℕ). block_buffer a c ++ ws) rest.words
          ∙ two-hand a b c h e;
    }
