-- An accepted block word by word: its first words, and one behind them. Assumes nothing.
use mathlib.Core.Path.{◌≡◌, sym, ap, ap₂, ◌∙◌}
use Prim.Native.Nat.{ℕ, zero, suc, ◌+◌, ◌<◌}
use native.Mathlib.Omega.{arith}
use Rattle.refusals.specs.Numbers.{accepted}
use Rattle.laws.proofs.Tests.{by-same}
use Rattle.write_effects.specs.Effects.{changes_in, restarts_in}
use Rattle.queue_flush.specs.Applied.{register_writes}
use Rattle.chip.specs.declared.Chip.{Chip}
use Rattle.chip.proofs.InRange.{InRange, passes}
use Rattle.clocking_block.specs.Block.{after_words, applied_of}
use Rattle.calls_words.specs.Blocks.{block_no, block_played, blocked, sampled}
use Rattle.laws_histories.specs.Histories.{OfItsType}
use Rattle.laws_histories.proofs.Accepted.{block-passed, block-plays}
use Rattle.laws_effects.specs.Claims.{InTwo, WordByWord, after_samples, of_block, of_word}
use Rattle.laws_effects.proofs.Parts.{in_parts, in-range, parts-no}

no_words : (c : Chip) → blocked 0 c ≡ block_played 0 c → WordByWord 0 c
unfolding after_words applied_of register_writes changes_in restarts_in
no_words c none = record { each = λ i k. absurd (omega arith); chip = rw none; changed = rw none; restarted = rw none }

module _ (n : ℕ) (c : Chip) (w : WordByWord n c) (p : InTwo n 1 c) where
  more : n + 1 ≡ suc n
  more = omega arith

  each : (i : ℕ) → i < suc n → (of_word (after_samples i c)).no ≡ accepted
  unfolding sampled
  each i k =
      by-same i n (λ e. rw e (ap (λ (d : Chip). (of_block 1 d).no) (sym w.chip) ∙ p.second)) (λ other. w.each i (omega arith))

  one_more : WordByWord (suc n) c
  unfolding sampled
  one_more =
      record {
        each = each;
        chip = ap (λ (k : ℕ). (blocked k c).chip) (sym more) ∙ p.chip ∙ ap (λ (d : Chip). (blocked 1 d).chip) w.chip;
        changed =
            ap (λ (k : ℕ). (of_block k c).changed) (sym more)
            ∙ p.changed
            ∙ ap₂ ◌+◌ w.changed (ap (λ (d : Chip). (of_block 1 d).changed) w.chip);
        restarted =
            ap (λ (k : ℕ). (of_block k c).restarted) (sym more)
            ∙ p.restarted
            ∙ ap₂ ◌+◌ w.restarted (ap (λ (d : Chip). (of_block 1 d).restarted) w.chip);
      }

word-by-word : (n : ℕ) (c : Chip) → InRange c → block_no n c ≡ accepted → WordByWord n c
word-by-word zero c h e = no_words c (block-plays 0 c (passes h) e)
word-by-word (suc n) c h e =
    let all : block_no (n + 1) c ≡ accepted = ap (λ (k : ℕ). block_no k c) (omega arith) ∙ e in
    one_more n c (word-by-word n c h (parts-no n 1 c h all).0) (in_parts n 1 c h all)

pub words : (n : ℕ) (c : Chip) → OfItsType c → (of_block n c).no ≡ accepted → WordByWord n c
words n c o e = let (t, number) = block-passed n c e in word-by-word n c (in-range c o t) number
