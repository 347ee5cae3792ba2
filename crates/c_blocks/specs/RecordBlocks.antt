-- A block on the parts of a host's record. 01, "One tick, one word" and "Numbers a call can answer". Assumes nothing.
use Rattle.std.specs.Prelude.{ℕ, cond, eqb}
use Rattle.refusals.specs.Numbers.{accepted}
use Rattle.chip.specs.declared.Core.{Core}
use Rattle.c_record.specs.declared.RecordCore.{RecordCore}
use Rattle.c_record.specs.Record.{record_core}
use Rattle.steps_blocks.specs.declared.BlockStep.{BlockStep}
use Rattle.c_blocks.specs.declared.RecordBlock.{RecordBlock}

-- A refused call changes nothing; an accepted one leaves the core that the block left.
unfoldable pub left_of : ℕ → RecordCore → Core → RecordCore
left_of number before after = cond (eqb number accepted) (record_core after) before

-- what a block leaves of a host's record, and its answer
abbrev pub record_block : RecordCore → BlockStep → RecordBlock
record_block before s =
    record { core = left_of s.answer.no before s.core; head = s.head; count = s.count; answer = s.answer }
