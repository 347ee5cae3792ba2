-- A word by itself, case by case. Assumes nothing.
use mathlib.Core.Bool.{Bool, true, false, not, cond}
use mathlib.Core.List.{List}
use mathlib.Core.Path.{◌≡◌, refl, sym, ap, ◌∙◌}
use lib.Dec.{eqb}
use lib.ListN.{length}
use Prim.Native.Nat.{ℕ, ◌-◌, ◌≤◌}
use native.Mathlib.Omega.{arith}
use borrow.Author.Tests.{eq-eqb, ne_eqb, not-false, not-true}
use Rattle.refusals.specs.Numbers.{accepted, out_of_range}
use Rattle.registers.specs.Writes.{RegisterWrite}
use Rattle.write_effects.specs.declared.Effects.{Effects}
use Rattle.write_effects.specs.Effects.{effects_of}
use Rattle.queue_drain.specs.Drain.{drain}
use Rattle.queue_effects.specs.Slots.{writes_at}
use Rattle.queue_effects.proofs.Front.{due-few, due-writes}
use Rattle.chip.specs.declared.Chip.{Chip}
use Rattle.clocking_word.specs.declared.Worded.{Worded}
use Rattle.clocking_word.specs.Word.{Word, applied_by, drained, end_of, small_of, word_of}
use Rattle.steps_words.specs.declared.WordStep.{WordStep}
use Rattle.steps_words.specs.WordSteps.{played_word, refused_word, word_no, word_step, writes_of}

-- the writes that it applied stood at the ring's front
few : (c : Chip) {w : Worded} → w ≡ small_of (word_of c.core c.queue) → w.count ≡ c.queue.count - length (applied_by c.core c.queue)
unfolding word_of drained drain
few c e = ap (λ (w : Worded). w.count) e

pub no_more : (c : Chip) {w : Worded} → w ≡ small_of (word_of c.core c.queue) → w.count ≤ c.queue.count
no_more c e = omega (arith, few c e)

abbrev pub front : Chip → ℕ → List RegisterWrite
front c n = writes_at c.queue.registers c.queue.values c.queue.head (c.queue.count - n)

applied-front : (c : Chip) {w : Worded} → w ≡ small_of (word_of c.core c.queue) → front c w.count ≡ writes_of c
applied-front c {w} e =
    let less = due-few (end_of c.core) c.queue in
    let n : c.queue.count - w.count ≡ length (applied_by c.core c.queue) = omega (arith, few c e) in
    ap (writes_at c.queue.registers c.queue.values c.queue.head) n ∙ sym (due-writes (end_of c.core) c.queue)

-- what a word leaves, as the call that plays it gives it, and what its writes changed
abbrev pub told : Effects → Worded → WordStep
told t w =
    record {
      voice = w.core.voice;
      channels = w.core.channels;
      accumulator = w.core.accumulator;
      start = w.core.start;
      head = w.head;
      count = w.count;
      answer = record { no = accepted; word = w.word; ticks = w.ticks; changed = t.changed; restarted = t.restarted };
    }

module _ (c : Chip) (ok : Bool) where
  pub step-out : not ok ≡ true → refused_word out_of_range c ≡ word_step ok c
  unfolding word_step
  step-out n = rw (not-true ok n)

  pub step-late : not ok ≡ false → {no : ℕ} → no ≡ word_no c → (no ≡ accepted → ⊥) → refused_word no c ≡ word_step ok c
  unfolding word_step
  step-late n {no} a z = rw (a, not-false ok n, ne_eqb (word_no c) accepted (λ y. z (a ∙ y)))

  pub step-played : not ok ≡ false → {no : ℕ} → no ≡ word_no c → no ≡ accepted → {w : Worded} → w ≡ small_of (word_of c.core c.queue)
      → {t : Effects} → t ≡ effects_of (front c w.count) c.core.voice.registers → told t w ≡ word_step ok c
  unfolding word_step
  step-played n {no} a z {w} p {t} e =
      let counted = e ∙ ap (λ (l : List RegisterWrite). effects_of l c.core.voice.registers) (applied-front c p) in
      rw (p, counted, not-false ok n, eq-eqb (word_no c) accepted (sym a ∙ z))

-- what is refused changes nothing
keeps : (c : Chip) (w : Word) (ok soon : Bool) (n : ℕ) → let s = cond ok (cond soon (played_word (writes_of c) c.core.voice.registers w) (refused_word n c)) (refused_word out_of_range c) in eqb s.answer.no accepted ≡ false → s ≡ refused_word s.answer.no c
keeps c w true true n e = let z : true ≡ false = e in cc
keeps c w true false n e = refl
keeps c w false soon n e = refl

pub refused-keeps : (ok : Bool) (c : Chip) → eqb (word_step ok c).answer.no accepted ≡ false → word_step ok c ≡ refused_word (word_step ok c).answer.no c
unfolding word_step
refused-keeps ok c e = keeps c (word_of c.core c.queue) ok (eqb (word_no c) accepted) (word_no c) e
