-- What a block stores in a lent record is what the call tells.
use Rattle.std.proofs.Common.{◌≡◌, ◌∙◌, refl, ap, ℕ, Bool, true, false, cond}
use Rattle.std.specs.Prelude.{eqb}
use Rattle.refusals.specs.Numbers.{accepted}
use Rattle.chip.specs.Range.{chip_in}
use Rattle.answers.specs.declared.Blocked.{Blocked}
use Rattle.clocking_block.specs.Block.{chip_with}
use Rattle.steps_blocks.specs.declared.BlockStep.{BlockStep}
use Rattle.steps_blocks.specs.BlockSteps.{block_step, refused_block}
use Rattle.steps_blocks.proofs.Cases.{refused-keeps}
use Rattle.calls_words.proofs.Blocking.{blocked_by, stored_block, blocked-by}
use Rattle.c_record.specs.declared.Record.{Record}
use Rattle.c_record.specs.Record.{chip_of, core_of, record_core, record_of}
use Rattle.c_told.specs.Told.{lent_back, told_block}
use Rattle.c_words.specs.Words.{next_block}
use Rattle.c_blocks.specs.declared.RecordBlock.{RecordBlock}
use Rattle.c_blocks.specs.RecordBlocks.{left_of, record_block}

abbrev pub stored : Record → RecordBlock → Record
stored x s = record { core = s.core; queue = record x.queue { head = s.head; count = s.count } }

-- what a block leaves, and whether it was accepted
abbrev stored_by : Bool → Record → BlockStep → Record
stored_by took x s = record { core = cond took (record_core s.core) x.core; queue = record x.queue { head = s.head; count = s.count } }

leaves-by : (x : Record) (s : BlockStep) (took : Bool) → (took ≡ false → s ≡ refused_block s.answer.no (chip_of x)) → stored_by took x s ≡ cond took (record_of (stored_block s (chip_of x))) x
leaves-by x s true f = refl
leaves-by x s false f = ap (stored_by false x) (f refl)

told-by : (n : ℕ) (x : Record) (ok : Bool) → let s = block_step ok n (chip_of x) in stored x (record_block x.core s) ≡ (told_block x (blocked_by s (chip_of x))).chip
unfolding left_of lent_back
told-by n x ok = let s = block_step ok n (chip_of x) in leaves-by x s (eqb s.answer.no accepted) (refused-keeps ok n (chip_of x))

abbrev pub block_of : ℕ → Record → BlockStep
block_of n x = block_step (chip_in (chip_of x)) n (chip_with (core_of x.core) x.queue)

pub block-told : (n : ℕ) (x : Record) → (block_of n x).answer ≡ (next_block n x).answer
block-told n x = ap (λ (r : Blocked). r.answer) (blocked-by n (chip_of x))

pub block-left : (n : ℕ) (x : Record) → stored x (record_block x.core (block_of n x)) ≡ (next_block n x).chip
block-left n x = told-by n x (chip_in (chip_of x)) ∙ ap (λ (r : Blocked). (told_block x r).chip) (blocked-by n (chip_of x))
