-- A block is what its step leaves of a chip's parts, the step's answer, and the buffer as the step leaves it. Assumes nothing.
use mathlib.Core.Bool.{Bool, true, false, cond}
use mathlib.Core.List.{List}
use mathlib.Core.Path.{◌≡◌, refl, ap}
use Prim.Native.Nat.{ℕ}
use lib.Dec.{eqb}
use Rattle.refusals.specs.Numbers.{accepted, out_of_range}
use Rattle.queue.specs.Waiting.{ring}
use Rattle.chip.specs.declared.Chip.{Chip}
use Rattle.chip.specs.Range.{chip_in}
use Rattle.answers.specs.declared.Blocked.{Blocked}
use Rattle.clocking_block.specs.Block.{chip_with}
use Rattle.clocking_block.proofs.Slots.{slots-stay}
use Rattle.steps_blocks.specs.declared.BlockStep.{BlockStep}
use Rattle.steps_blocks.specs.BlockSteps.{block_step, buffer_left, number_of, played_block, refused_block}
use Rattle.calls_words.specs.Blocks.{block_played, block_refused, blocked, block_buffer}

-- a chip with the parts that a block changes
abbrev pub stored_block : BlockStep → Chip → Chip
stored_block s c = chip_with s.core (ring c.queue.stamps c.queue.registers c.queue.values s.head s.count)

abbrev pub blocked_by : BlockStep → Chip → Blocked
blocked_by s c = record { chip = stored_block s c; answer = s.answer }

by_cases : (n : ℕ) (c : Chip) (ok soon : Bool) (number : ℕ)
    → blocked_by (cond ok (cond soon (played_block n c) (refused_block number c)) (refused_block out_of_range c)) c
    ≡ cond ok (cond soon (block_played n c) (block_refused number c)) (block_refused out_of_range c)
by_cases n c true true number = ap (λ (d : Chip). record { chip = d; answer = (block_played n c).answer }) (slots-stay n c)
by_cases n c true false number = refl
by_cases n c false soon number = refl

pub blocked-by : (n : ℕ) (c : Chip) → blocked_by (block_step (chip_in c) n c) c ≡ blocked n c
unfolding blocked block_step
blocked-by n c = by_cases n c (chip_in c) (eqb (number_of n c) accepted) (number_of n c)

pub buffer-by : (out : List ℕ) (c : Chip) → buffer_left (chip_in c) out c ≡ block_buffer out c
unfolding block_buffer buffer_left
buffer-by out c = refl
