-- Playing a capture, as calls on a chip. 02, request 01. Definitions alone: nothing here is proved. Assumes nothing.
use Rattle.std.specs.Prelude.{cond, List, [], ◌∷◌, ◌++◌, ℕ, zero, suc, ◌%◌}
use Rattle.queue.specs.declared.Write.{Write}
use Rattle.chip.specs.declared.Chip.{Chip}
use Rattle.clocking_word.specs.Word.{end_of}
use Rattle.clocking_block.specs.Block.{after_one}
use Rattle.calls_ports.specs.Ports.{bit1_clear}
use Rattle.bus.specs.Passing.{pass_write}
use Rattle.bus_writes.specs.Due.{is_due}
use Rattle.bus_writes.specs.declared.BusWrite.{BusWrite}
use Rattle.capture_course.specs.Course.{pass_due}
use Rattle.laws_promises.specs.History.{Call, set-cpu-cycle, write-port, compute-next-sample, is_accepted}

-- "passed to the ports .. with their stamps": the cycle is set, then the port written.
abbrev pub pass_calls : BusWrite → List Call
pass_calls w = set-cpu-cycle w.stamp ∷ write-port w.port w.value ∷ []

-- The calls of the writes that are due by an end. One that the port refuses is not among them: the chip came back as it was.
unfoldable pub due_calls : ℕ → List BusWrite → Chip → List Call
due_calls end [] c = []
due_calls end (w ∷ ws) c =
    let p = pass_write w c in
    let more = due_calls end ws p.chip in
    cond (is_due end w) (cond (is_accepted p.no) (pass_calls w ++ more) []) []

-- n words: "Before each word, the writes stamped at or before its end are passed". A write that is refused ends it.
unfoldable pub course_calls : ℕ → List BusWrite → Chip → List Call
course_calls zero ws c = []
course_calls (suc n) ws c =
    let p = pass_due (end_of c.core) ws c in
    let due = due_calls (end_of c.core) ws c in
    let more = course_calls n p.rest (after_one p.chip) in
    cond (is_accepted p.no) (due ++ compute-next-sample ∷ more) due

-- The data writes among some writes: each with its stamp and the number that was selected last. "Port bit 1 clear selects (value modulo 16)
-- at once; set, it queues the write".
abbrev pub data_writes : ℕ → List BusWrite → List Write
data_writes selected [] = []
data_writes selected (w ∷ ws) =
    cond (bit1_clear w.port) (data_writes (w.value % 16) ws)
    (record { stamp = w.stamp; register = selected; value = w.value } ∷ data_writes selected ws)
