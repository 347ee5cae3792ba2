-- Stamps, the next word's start, and the queue. 01, "Registers and ports". Assumes nothing.
use Rattle.std.specs.Prelude.{ℕ, cond}
use Rattle.answers.specs.Answers.{does}
use Rattle.chip_parts.specs.Parts.{on_voice, with_queue, with_times}
use Rattle.answers.specs.Reports.{applied}
use Rattle.answers.specs.declared.Answered.{Answered}
use Rattle.answers.specs.declared.Applied.{Applied}
use Rattle.answers.specs.declared.Count.{Count}
use Rattle.answers.specs.declared.Cycle.{Cycle}
use Rattle.chip.specs.declared.Chip.{Chip}
use Rattle.queue_flush.specs.Applied.{apply_all, register_writes}
use Rattle.queue.specs.Waiting.{emptied, waiting}
use Rattle.chip.specs.Range.{chip_in}
use Rattle.refusals.specs.Numbers.{accepted, out_of_range}

-- Setting the CPU cycle sets the stamp of later writes; syncing sets the stamp and the next word's start.
unfoldable pub set_cpu_cycle : ℕ → Chip → Answered
set_cpu_cycle cycle c = does (with_times cycle c.core.start) c

unfoldable pub cpu_cycle : Chip → Cycle
cpu_cycle c = cond (chip_in c) (record { no = accepted; cycle = c.core.stamp }) (record { no = out_of_range; cycle = 0 })

unfoldable pub sync_sample_cycle : ℕ → Chip → Answered
sync_sample_cycle cycle c = does (with_times cycle cycle) c

-- A flush applies all waiting writes in order.
abbrev pub flushed : Chip → Chip
flushed c = with_queue (emptied c.queue) (on_voice (apply_all (waiting c.queue)) c)

unfoldable pub flush_pending_writes : Chip → Answered
flush_pending_writes c = does flushed c

-- All that waited, counted. 02, request 03.
unfoldable pub flushed_pending_writes : Chip → Applied
flushed_pending_writes c = applied (register_writes (waiting c.queue)) c (flush_pending_writes c)

-- the waiting count is the list's length (`length-waiting`)
unfoldable pub pending_write_count : Chip → Count
pending_write_count c = cond (chip_in c) (record { no = accepted; count = c.queue.count }) (record { no = out_of_range; count = 0 })
