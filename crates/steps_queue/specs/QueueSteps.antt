-- A flush, of the parts of a record that it reads and changes. 01, "Registers and ports"; 02, request 03. Assumes nothing.
use Rattle.std.specs.Prelude.{Bool, cond}
use Rattle.refusals.specs.Numbers.{accepted, out_of_range}
use Rattle.registers.specs.declared.Voice.{Voice}
use Rattle.write_effects.specs.Effects.{changes_in, restarts_in}
use Rattle.answers.specs.declared.Counts.{Counts}
use Rattle.answers.specs.Reports.{counts}
use Rattle.queue.specs.declared.Queue.{Queue}
use Rattle.queue.specs.Waiting.{emptied, waiting}
use Rattle.queue_flush.specs.Applied.{apply_all, register_writes}
use Rattle.steps_queue.specs.declared.FlushStep.{FlushStep}

-- of a ring its place and its count: a flush writes no slot
abbrev pub flush_leaves : Voice → Queue → Counts → FlushStep
flush_leaves voice q answer = record { voice = voice; head = q.head; count = q.count; answer = answer }

-- A flush applies all waiting writes in order, and counts over them; a record out of range keeps its own.
unfoldable pub flush_step : Bool → Voice → Queue → FlushStep
flush_step ok voice q =
    let writes = register_writes (waiting q) in
    cond ok
    (flush_leaves (apply_all (waiting q) voice) (emptied q) (counts accepted (changes_in writes voice.registers) (restarts_in writes)))
    (flush_leaves voice q (counts out_of_range 0 0))
