-- An accepted block in two: each part is accepted, and the second finds the bytes that the first left. Assumes nothing.
use mathlib.Core.Bool.{true}
use mathlib.Core.List.{List, ◌++◌, append_assoc}
use mathlib.Core.Path.{◌≡◌, refl, sym, ap, ap₂, ◌∙◌}
use Prim.Native.Nat.{ℕ, zero, suc, ◌+◌}
use native.Mathlib.Omega.{arith}
use Rattle.refusals.specs.Numbers.{accepted}
use Rattle.registers.specs.Writes.{RegisterWrite}
use Rattle.write_effects.specs.Effects.{changes_in, restarts_in}
use Rattle.write_effects.proofs.Laws.{changes-append, restarts-append}
use Rattle.queue.specs.declared.Write.{Write}
use Rattle.queue_flush.specs.Applied.{register_writes}
use Rattle.queue_effects.proofs.Front.{writes-append}
use Rattle.chip.specs.declared.Chip.{Chip}
use Rattle.chip.specs.Range.{chip_in}
use Rattle.chip.proofs.InRange.{InRange, passed, passes}
use Rattle.clocking_word.specs.Word.{applied_by, word_of}
use Rattle.clocking_block.specs.Block.{after_one, after_words, applied_of}
use Rattle.clocking_block.proofs.Joined.{after-split}
use Rattle.answers.specs.Reports.{bytes_of}
use Rattle.answers.specs.declared.Blocked.{Blocked}
use Rattle.calls_words.specs.Blocks.{block_no, blocked}
use Rattle.laws_in_range.proofs.CallsInRange.{words-kept}
use Rattle.laws_effects.specs.Claims.{InTwo, of_block}
use Rattle.laws_histories.specs.Histories.{OfItsType}
use Rattle.laws_histories.proofs.Accepted.{block-passed, block-plays, parts-in-time, words-start}
use Rattle.laws_effects.proofs.Words.{words-bytes, writes_of}

-- ---- words and then more words
applied-split : (m n : ℕ) (c : Chip) → applied_of (m + n) c ≡ applied_of m c ++ applied_of n (after_words m c)
unfolding applied_of after_words
applied-split zero n c = let z : 0 + n ≡ n = omega arith in rw z
applied-split (suc m) n c =
    let z : suc m + n ≡ suc (m + n) = omega arith in
    let first = applied_by c.core c.queue in
    let behind = applied_of n (after_words m (after_one c)) in
    rw z
    (ap (λ (l : List Write). first ++ l) (applied-split m n (after_one c)) ∙ sym (append_assoc first (applied_of m (after_one c)) behind))

writes-split : (m n : ℕ) (c : Chip) → writes_of (m + n) c ≡ writes_of m c ++ writes_of n (after_words m c)
writes-split m n c = ap register_writes (applied-split m n c) ∙ writes-append (applied_of m c) (applied_of n (after_words m c))

changes-split : (m n : ℕ) (c : Chip)
    → changes_in (writes_of (m + n) c) (bytes_of c)
    ≡ changes_in (writes_of m c) (bytes_of c) + changes_in (writes_of n (after_words m c)) (bytes_of (after_words m c))
changes-split m n c =
    let behind = writes_of n (after_words m c) in
    ap (λ (l : List RegisterWrite). changes_in l (bytes_of c)) (writes-split m n c)
    ∙ changes-append (writes_of m c) behind (bytes_of c)
    ∙ ap (λ (l : List ℕ). changes_in (writes_of m c) (bytes_of c) + changes_in behind l) (sym (words-bytes m c))

restarts-split : (m n : ℕ) (c : Chip) → restarts_in (writes_of (m + n) c) ≡ restarts_in (writes_of m c) + restarts_in (writes_of n (after_words m c))
restarts-split m n c = rw (writes-split m n c) (restarts-append (writes_of m c) (writes_of n (after_words m c)))

clocks-stay : (n : ℕ) (c : Chip) → (after_words n c).core.clocks ≡ c.core.clocks
unfolding after_words word_of
clocks-stay zero c = refl
clocks-stay (suc n) c = clocks-stay n (after_one c)

-- ---- in two
module _ (m n : ℕ) (c : Chip) (h : InRange c) (e : block_no (m + n) c ≡ accepted) where
  pub parts-no : (block_no m c ≡ accepted) × (block_no n (after_words m c) ≡ accepted)
  parts-no =
      let p = parts-in-time m n c.core.start c.core.clocks.cycles e in
      (p.0, rw (words-start m c, clocks-stay m c) p.1)

  pub in_parts : InTwo m n c
  in_parts =
      let d = after_words m c in
      let whole = block-plays (m + n) c (passes h) e in
      let first = block-plays m c (passes h) parts-no.0 in
      let second = block-plays n d (passes (words-kept m h)) parts-no.1 in
      let behind = ap (λ (b : Blocked). blocked n b.chip) first ∙ second in
      record {
        first = rw first;
        second = ap (λ (b : Blocked). b.answer.no) behind;
        chip = ap (λ (b : Blocked). b.chip) whole ∙ after-split m n c ∙ sym (ap (λ (b : Blocked). b.chip) behind);
        changed =
            ap (λ (b : Blocked). b.answer.changed) whole
            ∙ changes-split m n c
            ∙ sym (ap₂ (λ (a b : Blocked). a.answer.changed + b.answer.changed) first behind);
        restarted =
            ap (λ (b : Blocked). b.answer.restarted) whole
            ∙ restarts-split m n c
            ∙ sym (ap₂ (λ (a b : Blocked). a.answer.restarted + b.answer.restarted) first behind);
      }

-- ---- of every record of its type
pub in-range : (c : Chip) → OfItsType c → chip_in c ≡ true → InRange c
in-range c o t = passed (record { registers = o.registers; stamps = o.stamps; numbers = o.numbers; values = o.values }) t

pub in_two : (m n : ℕ) (c : Chip) → OfItsType c → (of_block (m + n) c).no ≡ accepted → InTwo m n c
in_two m n c o e = let (t, number) = block-passed (m + n) c e in in_parts m n c (in-range c o t) number
