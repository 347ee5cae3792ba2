-- What holds of playing a capture, claim by claim. Nothing here is proved; `captures : Captures` is, in `proofs/Captures.antt`. Assumes
-- nothing.
use Rattle.std.specs.Prelude.{false, List, [], ◌∷◌, ◌++◌, ◌≡◌, ℕ, ◌+◌, ◌≤◌, length}
use Rattle.refusals.specs.Numbers.{accepted, queue_full}
use Rattle.clocks.specs.Clocks.{clocks_no}
use Rattle.queue.specs.Waiting.{waiting}
use Rattle.answers.specs.Answers.{answered}
use Rattle.calls_making.specs.Making.{default_variant}
use Rattle.calls_ports.specs.Ports.{bit1_clear}
use Rattle.bus.specs.Passing.{pass_write}
use Rattle.bus_writes.specs.declared.BusWrite.{BusWrite}
use Rattle.capture_course.specs.Course.{Course, course}
use Rattle.capture_course.specs.Claims.{made}
use Rattle.dump_words.specs.Words.{lines_of}
use Rattle.output_lines.specs.Lines.{total_text}
use Rattle.capture.specs.Checked.{capture_of}
use Rattle.capture_output.specs.Ends.{last_line}
use Rattle.capture_played.specs.Whole.{writes_of, course_of, printed}
use Rattle.laws_promises.specs.History.{Call, after, Ledger, empty_ledger, ledger}
use Rattle.laws_promises.specs.Demand.{N, Holds}
use Rattle.laws_histories.specs.Histories.{AllAccepted, values}
use Rattle.laws_captures.specs.Captures.{course_calls, data_writes}

-- n words on a new chip: their course, the calls that they are, and the ledger of those
abbrev pub course_for : ℕ → ℕ → ℕ → List BusWrite → Course
course_for master rate n ws = course n ws (made master rate)

abbrev pub calls_for : ℕ → ℕ → ℕ → List BusWrite → List Call
calls_for master rate n ws = course_calls n ws (made master rate)

abbrev pub ledger_for : ℕ → ℕ → ℕ → List BusWrite → Ledger
ledger_for master rate n ws = ledger (calls_for master rate n ws) (made master rate) empty_ledger

-- The write that stopped the course: a data write, the next of those that are left, while 256 wait. It changes nothing.
pub record Stopped (k : Course) : Type 0 where
  pub write : BusWrite
  pub behind : List BusWrite
  pub next : k.rest ≡ write ∷ behind
  pub data-write : bit1_clear write.port ≡ false
  pub full : length (waiting k.chip.queue) ≡ 256
  pub answers-4 : pass_write write k.chip ≡ answered queue_full k.chip

-- After word k nothing waits: each data write that was accepted before it has been applied. Those k words begin any longer course.
pub record AfterWord (master rate k : ℕ) (ws : List BusWrite) : Type 0 where
  pub none : waiting (course_for master rate k ws).chip.queue ≡ []
  pub applied : (ledger_for master rate k ws).applied ≡ (ledger_for master rate k ws).accepted
  pub counted : N (ledger_for master rate k ws) ≡ k
  pub begins : (more : ℕ)
      → calls_for master rate (k + more) ws
      ≡ calls_for master rate k ws ++ course_calls more (course_for master rate k ws).rest (course_for master rate k ws).chip

-- A course is a history of calls on the new chip.
pub record CourseIsCalls (master rate n : ℕ) (ws : List BusWrite) : Type 0 where
  -- It leaves the chip that they leave, and each of them answers 0.
  pub chip : (course_for master rate n ws).chip ≡ after (calls_for master rate n ws) (made master rate)
  pub each : AllAccepted (calls_for master rate n ws) (made master rate)
  -- The words are the ledger's, in order, and N is their number.
  pub words : values (ledger_for master rate n ws).words ≡ (course_for master rate n ws).words
  pub counted : N (ledger_for master rate n ws) ≡ length (course_for master rate n ws).words
  -- "Demand 3 holds over it as it stands."
  pub holds : Holds master rate default_variant (course_for master rate n ws).chip (ledger_for master rate n ws)
  -- The writes are those passed and then those left. Of those passed the data writes are accepted, in order; of the others none.
  pub passed : List BusWrite
  pub split : ws ≡ passed ++ (course_for master rate n ws).rest
  pub taken : (ledger_for master rate n ws).accepted ≡ data_writes 0 passed
  -- A refused write is the first of those left: it is neither accepted nor applied.
  pub stopped : ((course_for master rate n ws).no ≡ accepted → ⊥) → Stopped (course_for master rate n ws)
  -- after each word
  pub after-word : (k : ℕ) → k ≤ length (course_for master rate n ws).words → AfterWord master rate k ws

-- A checked capture is the course of its writes on the new chip of its clocks.
abbrev pub capture_ledger : List ℕ → Ledger
capture_ledger text = ledger_for (capture_of text).master (capture_of text).rate (capture_of text).words (writes_of text)

pub record CaptureIsCalls (text : List ℕ) : Type 0 where
  pub plays : course_of text ≡ course_for (capture_of text).master (capture_of text).rate (capture_of text).words (writes_of text)
  pub calls : CourseIsCalls (capture_of text).master (capture_of text).rate (capture_of text).words (writes_of text)
  -- "Demand 3 holds over it as it stands."
  pub holds : Holds (capture_of text).master (capture_of text).rate default_variant (course_of text).chip (capture_ledger text)
  -- What is printed: the number of words asked, the ledger's words, and the last line. N is the number of words printed.
  pub prints : printed text
      ≡ total_text (capture_of text).words
      ++ lines_of (values (capture_ledger text).words)
      ++ last_line (course_of text).no (capture_of text).writes (length (course_of text).rest)
  pub counted : N (capture_ledger text) ≡ length (course_of text).words

pub record Captures : Type 0 where
  pub course : (master rate : ℕ) → clocks_no master rate ≡ accepted → (n : ℕ) → n ≤ 65536 → (ws : List BusWrite) → CourseIsCalls master rate n ws
  pub capture : (text : List ℕ) → (capture_of text).no ≡ accepted → CaptureIsCalls text
