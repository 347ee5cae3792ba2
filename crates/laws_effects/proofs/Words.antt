-- A word and a block: the stored bytes are those that the applied writes leave, as ticks leave them alone. Assumes nothing.
use mathlib.Core.Bool.{true}
use mathlib.Core.List.{List, ◌++◌}
use mathlib.Core.Path.{◌≡◌, refl, sym, ap, ◌∙◌}
use Prim.Native.Nat.{ℕ, zero, suc, ◌+◌, ◌≤◌}
use native.Mathlib.Omega.{arith}
use lib.ListN.{length, length-append}
use Rattle.refusals.specs.Numbers.{accepted, out_of_range}
use Rattle.laws.proofs.Tests.{by_cond, by-eq}
use Rattle.registers.specs.Writes.{RegisterWrite}
use Rattle.write_effects.proofs.Laws.{bytes_left, bytes_left_lem, changes-few, restarts-few}
use Rattle.queue.specs.declared.Write.{Write}
use Rattle.queue.specs.Waiting.{waiting}
use Rattle.queue.proofs.Due.{due-late}
use Rattle.queue_flush.specs.Applied.{register_writes}
use Rattle.queue_drain.specs.Drain.{drain}
use Rattle.queue_drain.proofs.Ruled.{waiting-drain}
use Rattle.queue_effects.proofs.Front.{writes-append}
use Rattle.chip.specs.declared.Chip.{Chip}
use Rattle.chip.specs.Range.{chip_in}
use Rattle.clocking_word.specs.Word.{applied_by, drained, end_of, word_of}
use Rattle.clocking_block.specs.Block.{after_one, after_words, applied_of}
use Rattle.answers.specs.Reports.{bytes_of, counts}
use Rattle.answers.specs.declared.Blocked.{Blocked}
use Rattle.calls_words.specs.Blocks.{block_no, block_played, block_refused, blocked, sampled}
use Rattle.laws_effects.specs.Claims.{Counted, of_block, of_word, waits}
use Rattle.laws_effects.proofs.Bytes.{left-append, length-writes, none-changed}
use Rattle.laws_effects.proofs.ManyWrites.{waits-all}

abbrev pub writes_of : ℕ → Chip → List RegisterWrite
writes_of n c = register_writes (applied_of n c)

-- ---- the bytes after words
one-bytes : (c : Chip) → bytes_of (after_one c) ≡ bytes_left (register_writes (applied_by c.core c.queue)) (bytes_of c)
unfolding word_of drained drain
one-bytes c = bytes_left_lem (register_writes (applied_by c.core c.queue)) c.core.voice

pub words-bytes : (n : ℕ) (c : Chip) → bytes_of (after_words n c) ≡ bytes_left (writes_of n c) (bytes_of c)
unfolding after_words applied_of register_writes
words-bytes zero c = refl
words-bytes (suc n) c =
    let first = register_writes (applied_by c.core c.queue) in
    let rest = writes_of n (after_one c) in
    words-bytes n (after_one c)
    ∙ ap (bytes_left rest) (one-bytes c)
    ∙ sym (left-append first rest (bytes_of c))
    ∙ ap (λ (l : List RegisterWrite). bytes_left l (bytes_of c)) (sym (writes-append (applied_by c.core c.queue) (applied_of n (after_one c))))

-- ---- what they apply waited
one_left : (c : Chip) → waiting c.queue ≡ applied_by c.core c.queue ++ waiting (after_one c).queue
unfolding word_of drained
one_left c =
    sym (due-late (end_of c.core) (waiting c.queue))
    ∙ ap (λ (l : List Write). applied_by c.core c.queue ++ l) (sym (waiting-drain (end_of c.core) c.core.voice c.queue))

applied-few : (n : ℕ) (c : Chip) → length (applied_of n c) ≤ length (waiting c.queue)
unfolding applied_of
applied-few zero c = omega arith
applied-few (suc n) c =
    let first = applied_by c.core c.queue in
    let more = applied-few n (after_one c) in
    let all = ap length (one_left c) ∙ length-append first (waiting (after_one c).queue) in
    omega (arith, all, length-append first (applied_of n (after_one c)))

-- ---- a block, played or refused
module _ (n : ℕ) (c : Chip) where
  pub by-played : (P : Blocked → Type 0) → (chip_in c ≡ true → block_no n c ≡ accepted → P (block_played n c))
      → ((number : ℕ) → (number ≡ accepted → ⊥) → P (block_refused number c)) → P (blocked n c)
  unfolding blocked
  by-played P played refused =
      by_cond P (chip_in c) _ _
      (λ passed. by-eq P (block_no n c) accepted (λ e. played passed e) (λ e. refused (block_no n c) e))
      (λ _. refused out_of_range (λ e. absurd (omega arith)))

  abbrev Counts : ℕ → Blocked → Type 0
  Counts most b = Counted c b.chip most (counts b.answer.no b.answer.changed b.answer.restarted)

  counted : (most : ℕ) → (chip_in c ≡ true → length (applied_of n c) ≤ most) → Counts most (blocked n c)
  counted most enough =
      by-played (Counts most)
      (λ passed _. let few = enough passed in record {
        refused = λ e. absurd (e refl);
        few-changed = omega (arith, changes-few (writes_of n c) (bytes_of c), length-writes (applied_of n c));
        few-restarted = omega (arith, restarts-few (writes_of n c), length-writes (applied_of n c));
        unchanged = λ none. words-bytes n c ∙ none-changed (writes_of n c) (bytes_of c) none;
      })
      (λ number e. record { refused = λ _. (refl, refl); few-changed = omega arith; few-restarted = omega arith; unchanged = λ _. refl })

  pub block-applies : Counted c (blocked n c).chip (length (applied_of n c)) (of_block n c)
  block-applies = counted (length (applied_of n c)) (λ _. omega arith)

  pub block-counted : Counted c (blocked n c).chip (waits c) (of_block n c)
  block-counted = counted (waits c) (λ passed. omega (arith, applied-few n c, waits-all c passed))

pub one_word : (c : Chip) → of_word c ≡ of_block 1 c
unfolding sampled
one_word c = refl

pub word-counted : (c : Chip) → Counted c (sampled c).chip (waits c) (of_word c)
unfolding sampled
word-counted c = block-counted 1 c
