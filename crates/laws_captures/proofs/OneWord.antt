-- A word is one call, accepted as long as it ends in time. Assumes nothing.
use mathlib.Core.List.{[], ◌∷◌}
use mathlib.Core.Path.{◌≡◌, ap}
use Prim.Native.Nat.{◌^◌, ◌<◌}
use native.Mathlib.Omega.{arith}
use Rattle.refusals.specs.Numbers.{accepted}
use Rattle.chip.specs.declared.Chip.{Chip}
use Rattle.chip.proofs.InRange.{InRange, passes}
use Rattle.clocking_word.specs.Word.{end_of}
use Rattle.clocking_block.specs.Block.{after_one, after_words}
use Rattle.block_limits.proofs.Fits.{in-time}
use Rattle.answers.specs.declared.Blocked.{Blocked}
use Rattle.calls_words.specs.Blocks.{block_played, blocked, sampled}
use Rattle.laws_promises.specs.History.{compute-next-sample, answers, entry_of, entries, Ledger, renders, enters, entered}
use Rattle.laws_histories.proofs.Accepted.{block-plays}

module _ (c : Chip) (h : InRange c) (soon : end_of c.core < 2 ^ 64) where
  plays : blocked 1 c ≡ block_played 1 c
  plays = block-plays 1 c (passes h) (in-time 1 c.core.start c.core.clocks.cycles (omega arith) (omega arith))

  pub word-fine : (answers compute-next-sample c).no ≡ accepted
  unfolding answers sampled
  word-fine = ap (λ (b : Blocked). b.answer.no) plays

  pub word-leaves : (answers compute-next-sample c).chip ≡ after_one c
  unfolding answers sampled after_words
  word-leaves = ap (λ (b : Blocked). b.chip) plays

  pub word-enters : (l : Ledger) → entered compute-next-sample c l ≡ renders (entry_of c ∷ []) l
  unfolding entered enters entries
  word-enters l = rw word-fine
