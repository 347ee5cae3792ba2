-- A run's promise settles its answer and its buffer. Assumes nothing.
use mathlib.Core.List.{List, ◌++◌}
use mathlib.Core.Path.{◌≡◌, sym, ap, ◌∙◌}
use Prim.Native.Nat.{ℕ, suc, ◌+◌, ◌≤◌}
use native.Mathlib.Omega.{arith}
use lib.ListN.{take, drop, take-append-drop}
use Rattle.laws.proofs.Tests.{by_order}
use Rattle.chip.specs.declared.Core.{Core}
use Rattle.clocking_run.specs.declared.Run.{Run}
use Rattle.clocking_run.specs.Run.{core_after, next_ticks, ticks_from, words_from, Runs}

module _ (c : Core) (due first : ℕ) (out₀ : List ℕ) where
  -- no run goes on where another stops
  no_longer : {a b : List ℕ} {r s : Run} (u : Runs c due first out₀ a r) (v : Runs c due first out₀ b s) → v.more ≤ u.more
  no_longer u v =
      by_order v.more u.more (λ h. h)
      (λ h. let p = v.quiet u.more h in let q = u.stops (omega (arith, v.room)) in absurd (omega arith))

  as_many : {a b : List ℕ} {r s : Run} (u : Runs c due first out₀ a r) (v : Runs c due first out₀ b s) → u.more ≡ v.more
  as_many u v = let p = no_longer u v in let q = no_longer v u in omega arith

  -- what a run of n words more leaves
  abbrev answer : ℕ → Run
  answer n =
      let last = core_after (suc n) c in
      record {
        generators = last.voice.generators;
        accumulator = last.accumulator;
        start = last.start;
        gate = (next_ticks (core_after n c)).gate;
        ticks = ticks_from (suc n) c;
        next = first + suc n;
      }

  abbrev buffer : ℕ → List ℕ
  buffer n = (take first out₀ ++ words_from (suc n) c) ++ drop (first + suc n) out₀

  answer-is : {a : List ℕ} {r : Run} (u : Runs c due first out₀ a r) → r ≡ answer u.more
  answer-is u = λ i. record {
    generators = (u.core i).voice.generators;
    accumulator = (u.core i).accumulator;
    start = (u.core i).start;
    gate = u.gate i;
    ticks = u.ticks i;
    next = u.next i;
  }

  buffer-is : {a : List ℕ} {r : Run} (u : Runs c due first out₀ a r) → a ≡ buffer u.more
  buffer-is {a} u = sym (take-append-drop (first + suc u.more) a) ∙ rw (u.words, u.rest)

  pub one_answer : {a b : List ℕ} {r s : Run} → Runs c due first out₀ a r → Runs c due first out₀ b s → r ≡ s
  one_answer u v = answer-is u ∙ ap answer (as_many u v) ∙ sym (answer-is v)

  pub one-buffer : {a b : List ℕ} {r s : Run} → Runs c due first out₀ a r → Runs c due first out₀ b s → a ≡ b
  one-buffer u v = buffer-is u ∙ ap buffer (as_many u v) ∙ sym (buffer-is v)
