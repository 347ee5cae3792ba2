-- A block on a record's parts, case by case. Assumes nothing.
use mathlib.Core.Bool.{Bool, true, false, not, cond}
use mathlib.Core.List.{List}
use mathlib.Core.Path.{◌≡◌, refl, sym, ap, ◌∙◌}
use lib.Dec.{eqb}
use lib.ListN.{length}
use Prim.Native.Nat.{ℕ, ◌-◌, ◌≤◌}
use borrow.Author.Tests.{eq-eqb, ne_eqb, not-false, not-true}
use Rattle.refusals.specs.Numbers.{accepted, out_of_range}
use Rattle.registers.specs.Writes.{RegisterWrite}
use Rattle.write_effects.specs.declared.Effects.{Effects}
use Rattle.write_effects.specs.Effects.{effects_of}
use Rattle.chip.specs.declared.Chip.{Chip}
use Rattle.clocking_block.specs.declared.Rendered.{Rendered}
use Rattle.clocking_block.specs.Block.{block_of, words_of}
use Rattle.steps_blocks.specs.declared.BlockStep.{BlockStep}
use Rattle.steps_blocks.specs.BlockSteps.{block_step, buffer_left, number_of, played_block, refused_block, writes_of}
use Rattle.steps_blocks.proofs.Front.{applied-front, front, no_more}

-- what n words leave, as the call that renders them gives it, and what their writes changed
abbrev pub told : ℕ → Effects → Rendered → BlockStep
told n t r =
    record {
      core = r.core;
      head = r.head;
      count = r.count;
      answer = record { no = accepted; words = n; ticks = r.ticks; changed = t.changed; restarted = t.restarted };
    }

pub few : (n : ℕ) (c : Chip) {r : Rendered} → r ≡ block_of n c → r.count ≤ c.queue.count
few n c e = rw e (no_more n c)

module _ (n : ℕ) (c : Chip) (ok : Bool) where
  pub step-out : not ok ≡ true → refused_block out_of_range c ≡ block_step ok n c
  unfolding block_step
  step-out refused = rw (not-true ok refused)

  pub step-late : not ok ≡ false → {number : ℕ} → number ≡ number_of n c → (number ≡ accepted → ⊥) → refused_block number c ≡ block_step ok n c
  unfolding block_step
  step-late passed {number} a z = rw (a, not-false ok passed, ne_eqb (number_of n c) accepted (λ y. z (a ∙ y)))

  pub step-played : not ok ≡ false → {number : ℕ} → number ≡ number_of n c → number ≡ accepted → {r : Rendered} → r ≡ block_of n c
      → {t : Effects} → t ≡ effects_of (front c (c.queue.count - r.count)) c.core.voice.registers → told n t r ≡ block_step ok n c
  unfolding block_step
  step-played passed {number} a z {r} p {t} e =
      let counted : t ≡ effects_of (writes_of n c) c.core.voice.registers = rw p at e ∙ ap (λ (l : List RegisterWrite). effects_of l c.core.voice.registers) (sym (applied-front n c)) in
      rw (p, counted, not-false ok passed, eq-eqb (number_of n c) accepted (sym a ∙ z))

module _ (out : List ℕ) (c : Chip) (ok : Bool) where
  pub buffer-out : not ok ≡ true → out ≡ buffer_left ok out c
  unfolding buffer_left
  buffer-out refused = rw (not-true ok refused)

  pub buffer-late : not ok ≡ false → {number : ℕ} → number ≡ number_of (length out) c → (number ≡ accepted → ⊥) → out ≡ buffer_left ok out c
  unfolding buffer_left
  buffer-late passed {number} a z = rw (not-false ok passed, ne_eqb (number_of (length out) c) accepted (λ y. z (a ∙ y)))

  pub buffer-filled : not ok ≡ false → {number : ℕ} → number ≡ number_of (length out) c → number ≡ accepted → {words : List ℕ} → words ≡ words_of (length out) c → words ≡ buffer_left ok out c
  unfolding buffer_left
  buffer-filled passed {number} a z {words} p = rw (p, not-false ok passed, eq-eqb (number_of (length out) c) accepted (sym a ∙ z))

-- what is refused changes nothing
keeps : (n : ℕ) (c : Chip) (ok soon : Bool) (number : ℕ) → let s = cond ok (cond soon (played_block n c) (refused_block number c)) (refused_block out_of_range c) in eqb s.answer.no accepted ≡ false → s ≡ refused_block s.answer.no c
keeps n c true true number e = let z : true ≡ false = e in cc
keeps n c true false number e = refl
keeps n c false soon number e = refl

pub refused-keeps : (ok : Bool) (n : ℕ) (c : Chip) → eqb (block_step ok n c).answer.no accepted ≡ false → block_step ok n c ≡ refused_block (block_step ok n c).answer.no c
unfolding block_step
refused-keeps ok n c e = keeps n c ok (eqb (number_of n c) accepted) (number_of n c) e
