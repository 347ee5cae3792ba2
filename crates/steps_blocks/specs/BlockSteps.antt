-- A block of words, of the parts of a record that it reads and changes. 01, "Numbers a call can answer" and "One tick, one word"; 02,
-- request 03. Assumes nothing.
use Rattle.std.specs.Prelude.{ℕ, Bool, cond, List, eqb, length}
use Rattle.refusals.specs.Numbers.{accepted, out_of_range}
use Rattle.registers.specs.Writes.{RegisterWrite}
use Rattle.write_effects.specs.Effects.{changes_in, restarts_in}
use Rattle.queue_flush.specs.Applied.{register_writes}
use Rattle.chip.specs.declared.Core.{Core}
use Rattle.chip.specs.declared.Chip.{Chip}
use Rattle.block_limits.specs.Limits.{block_number}
use Rattle.clocking_block.specs.Block.{applied_of, block_of, words_of}
use Rattle.steps_blocks.specs.declared.BlockStep.{BlockStep}

-- nothing changes: 0 words, 0 ticks, 0 and 0
abbrev pub unrendered : Core → ℕ → ℕ → ℕ → BlockStep
unrendered core head count number =
    record {
      core = core;
      head = head;
      count = count;
      answer = record { no = number; words = 0; ticks = 0; changed = 0; restarted = 0 };
    }

abbrev pub refused_block : ℕ → Chip → BlockStep
refused_block number c = unrendered c.core c.queue.head c.queue.count number

-- the register writes that n words apply
abbrev pub writes_of : ℕ → Chip → List RegisterWrite
writes_of n c = register_writes (applied_of n c)

-- what n words leave of these parts, their ticks, and the counts over the writes that they applied to the stored bytes
abbrev pub played_block : ℕ → Chip → BlockStep
played_block n c =
    let b = block_of n c in
    record {
      core = b.core;
      head = b.head;
      count = b.count;
      answer = record {
        no = accepted;
        words = n;
        ticks = b.ticks;
        changed = changes_in (writes_of n c) c.core.voice.registers;
        restarted = restarts_in (writes_of n c);
      };
    }

-- 5 or 6, or accepted
abbrev pub number_of : ℕ → Chip → ℕ
number_of n c = block_number n c.core.start c.core.clocks.cycles

unfoldable pub block_step : Bool → ℕ → Chip → BlockStep
block_step ok n c =
    cond ok (cond (eqb (number_of n c) accepted) (played_block n c) (refused_block (number_of n c) c)) (refused_block out_of_range c)

-- It fills the lent buffer, or leaves every word of it.
unfoldable pub buffer_left : Bool → List ℕ → Chip → List ℕ
buffer_left ok out c = cond ok (cond (eqb (number_of (length out) c) accepted) (words_of (length out) c) out) out
