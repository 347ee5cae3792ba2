-- What is entered as applied is what was counted: all that waits, or what each word applies, one after the other. Assumes nothing.
use mathlib.Core.Bool.{Bool, true, false, cond}
use mathlib.Core.List.{List, [], ◌∷◌, ◌++◌, append-nil}
use mathlib.Core.Path.{◌≡◌, refl, sym, ap, ◌∙◌}
use Prim.Native.Nat.{ℕ, zero, suc, ◌+◌}
use native.Mathlib.Omega.{arith}
use borrow.Author.Tests.{eq-eqb, lt-ltb, ne_eqb}
use lib.Dec.{eqb, ltb}
use lib.ListN.{length}
use Rattle.refusals.specs.Numbers.{accepted}
use Rattle.laws.proofs.Tests.{by-same}
use Rattle.write_effects.specs.Effects.{changes_in, one, restarts_in}
use Rattle.queue.specs.declared.Write.{Write}
use Rattle.queue.specs.Waiting.{waiting}
use Rattle.queue_flush.specs.Applied.{register_writes}
use Rattle.chip.specs.declared.Chip.{Chip}
use Rattle.clocking_word.specs.Word.{applied_by}
use Rattle.clocking_block.specs.Block.{after_one, applied_of}
use Rattle.answers.specs.Reports.{bytes_of}
use Rattle.answers.specs.declared.Answered.{Answered}
use Rattle.answers.specs.declared.Blocked.{Blocked}
use Rattle.answers.specs.declared.Counts.{Counts}
use Rattle.calls_cycles.specs.Cycles.{flush_pending_writes, flushed_pending_writes}
use Rattle.calls_words.specs.Blocks.{sampled}
use Rattle.laws_promises.specs.History.{Call, Ledger, answers, applied_in, block, compute-next-sample, entered, enters, entries, flush-pending-writes, restart_in}
use Rattle.laws_histories.proofs.Accepted.{block-passed, block-plays}
use Rattle.laws_effects.specs.Claims.{of_block, of_word}
use Rattle.laws_effects.specs.Ledger.{Ledgers, OverEntered}
use Rattle.laws_effects.proofs.ManyWrites.{flush}
use Rattle.laws_effects.proofs.Words.{block-counted}
use Rattle.laws_effects.proofs.Noted.{load-entered, port-entered, write-entered}

-- a restart is noted where one is counted
noted : (writes : List Write) → restart_in writes ≡ ltb 0 (restarts_in (register_writes writes))
unfolding restarts_in register_writes
noted [] = refl
noted (w ∷ writes) = by_both (eqb w.register 13) (noted writes)
  where
    by_both : (t : Bool) → restart_in writes ≡ ltb 0 (restarts_in (register_writes writes))
        → cond t true (restart_in writes) ≡ ltb 0 (one t + restarts_in (register_writes writes))
    by_both true e = sym (lt-ltb 0 (1 + restarts_in (register_writes writes)) (omega arith))
    by_both false e = let z : 0 + restarts_in (register_writes writes) ≡ restarts_in (register_writes writes) = omega arith in rw z e

-- ---- an accepted call, and a refused one
module _ (x : Call) (c : Chip) (l : Ledger) (a : Counts) (number : a.no ≡ (answers x c).no) where
  some : (writes : List Write) → (answers x c).no ≡ accepted → (enters x c l).applied ≡ l.applied ++ writes
      → (enters x c l).restarted ≡ cond (restart_in writes) true l.restarted → a.changed ≡ changes_in (register_writes writes) (bytes_of c)
      → a.restarted ≡ restarts_in (register_writes writes) → OverEntered x c l a
  unfolding entered
  some writes e applied restarted changes restarts =
      record {
        number = number;
        writes = writes;
        applied = rw (eq-eqb (answers x c).no accepted e) applied;
        changed = changes;
        restarted = restarts;
        noted = rw (eq-eqb (answers x c).no accepted e, restarts) (rw (noted writes) at restarted);
      }

  none : ((answers x c).no ≡ accepted → ⊥) → (a.changed ≡ 0) × (a.restarted ≡ 0) → OverEntered x c l a
  unfolding entered changes_in restarts_in register_writes
  none e (changes, restarts) =
      record {
        number = number;
        writes = [];
        applied = rw (ne_eqb (answers x c).no accepted e) (sym (append-nil l.applied));
        changed = changes;
        restarted = restarts;
        noted = rw (ne_eqb (answers x c).no accepted e, restarts);
      }

-- ---- a flush
module _ (c : Chip) (l : Ledger) where
  flush-no : (flushed_pending_writes c).answer.no ≡ (answers flush-pending-writes c).no
  unfolding answers
  flush-no = ap (λ (a : Answered). a.no) (flush c).as_before

  flush-fine : (answers flush-pending-writes c).no ≡ accepted → OverEntered flush-pending-writes c l (flushed_pending_writes c).answer
  unfolding answers enters flushed_pending_writes
  flush-fine e =
      let t = eq-eqb (flush_pending_writes c).no accepted e in
      some flush-pending-writes c l (flushed_pending_writes c).answer flush-no (waiting c.queue) e refl refl (rw t) (rw t)

  flush-entered : OverEntered flush-pending-writes c l (flushed_pending_writes c).answer
  flush-entered =
      by-same (answers flush-pending-writes c).no accepted flush-fine
      (λ e. none flush-pending-writes c l (flushed_pending_writes c).answer flush-no e ((flush c).counted.refused (λ z. e (sym flush-no ∙ z))))

-- ---- words
applied-in : (n : ℕ) (c : Chip) → applied_in (entries n c) ≡ applied_of n c
unfolding entries applied_of
applied-in zero c = refl
applied-in (suc n) c = ap (λ (writes : List Write). applied_by c.core c.queue ++ writes) (applied-in n (after_one c))

module _ (out : List ℕ) (c : Chip) (l : Ledger) where
  words-fine : (answers (block out) c).no ≡ accepted → OverEntered (block out) c l (of_block (length out) c)
  unfolding answers enters
  words-fine e =
      let (t, soon) = block-passed (length out) c e in
      let played = block-plays (length out) c t soon in
      let writes = applied-in (length out) c in
      some (block out) c l (of_block (length out) c) refl (applied_of (length out) c) e
      (ap (λ (ws : List Write). l.applied ++ ws) writes)
      (ap (λ (ws : List Write). cond (restart_in ws) true l.restarted) writes)
      (ap (λ (b : Blocked). b.answer.changed) played)
      (ap (λ (b : Blocked). b.answer.restarted) played)

  words-entered : OverEntered (block out) c l (of_block (length out) c)
  unfolding answers
  words-entered =
      by-same (answers (block out) c).no accepted words-fine
      (λ e. none (block out) c l (of_block (length out) c) refl e ((block-counted (length out) c).refused e))

-- one word is a block of one, whatever stands in the buffer
word-entered : (c : Chip) (l : Ledger) → OverEntered compute-next-sample c l (of_word c)
unfolding answers enters entered sampled
word-entered c l =
    let b = words-entered (0 ∷ []) c l in
    record {
      number = b.number;
      writes = b.writes;
      applied = b.applied;
      changed = b.changed;
      restarted = b.restarted;
      noted = b.noted;
    }

pub ledgers : Ledgers
ledgers =
    record {
      flush = flush-entered;
      word = word-entered;
      words = words-entered;
      write = write-entered;
      port = port-entered;
      load = load-entered;
    }
