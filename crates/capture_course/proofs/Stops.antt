-- Where a course is stopped: at a data write while 256 wait, and not earlier than at the words that it has. Assumes nothing.
use mathlib.Core.Bool.{false}
use mathlib.Core.List.{List, [], ◌∷◌}
use mathlib.Core.Path.{◌≡◌, refl, ap, ◌∙◌}
use Prim.Native.Nat.{ℕ, zero, suc, ◌≤◌}
use native.Mathlib.Omega.{arith}
use borrow.Author.Tests.{le-leb, lt-leb}
use lib.ListN.{length}
use Rattle.refusals.specs.Numbers.{accepted, queue_full}
use Rattle.laws.proofs.Tests.{by_order, by-same}
use Rattle.queue.specs.Waiting.{waiting}
use Rattle.queue.proofs.Ring.{length-waiting}
use Rattle.chip.specs.declared.Chip.{Chip}
use Rattle.chip.proofs.InRange.{InRange, passes}
use Rattle.clocking_word.specs.Word.{end_of}
use Rattle.clocking_block.specs.Block.{after_one}
use Rattle.answers.specs.Answers.{answered}
use Rattle.calls_ports.specs.Ports.{bit1_clear}
use Rattle.bus.specs.Passing.{pass_write}
use Rattle.bus.proofs.Laws.{passes-in-range}
use Rattle.bus_writes.specs.declared.BusWrite.{BusWrite}
use Rattle.capture_course.specs.Course.{Passed, pass_due, Course, course}
use Rattle.capture_course.proofs.Passed.{due-none, by-due}
use Rattle.capture_course.proofs.Courses.{course-zero, course-word, course-refused}
use Rattle.capture_course.proofs.Waits.{write-waits}
use Rattle.capture_course.proofs.Full.{by-test}

-- the next of the writes left is one that the chip's port refuses
pub record Refused (d : Chip) (rest : List BusWrite) : Type 0 where
  pub write : BusWrite
  pub behind : List BusWrite
  pub next : rest ≡ write ∷ behind
  pub refused : (pass_write write d).no ≡ accepted → ⊥

pub due-stopped : (end : ℕ) (ws : List BusWrite) (c : Chip) → ((pass_due end ws c).no ≡ accepted → ⊥)
    → Refused (pass_due end ws c).chip (pass_due end ws c).rest
due-stopped end [] c = rw (due-none end [] c tt) (λ n. absurd (n refl))
due-stopped end (w ∷ ws) c =
    by-due (λ (p : Passed). (p.no ≡ accepted → ⊥) → Refused p.chip p.rest) end w ws c
    (λ _ _. due-stopped end ws (pass_write w c).chip) (λ _ n _. record { write = w; behind = ws; next = refl; refused = n })
    (λ _ n. absurd (n refl))

pub course-stopped : (n : ℕ) (ws : List BusWrite) (c : Chip) → ((course n ws c).no ≡ accepted → ⊥) → Refused (course n ws c).chip (course n ws c).rest
course-stopped zero ws c = rw (course-zero ws c) (λ n. absurd (n refl))
course-stopped (suc n) ws c =
    let p = pass_due (end_of c.core) ws c in
    by-same p.no accepted (λ y. rw (course-word n ws c refl y) (course-stopped n p.rest (after_one p.chip)))
    (λ y. rw (course-refused n ws c refl y) (due-stopped (end_of c.core) ws c))

-- a port in range refuses a data write alone, and that while 256 wait
pub record Full (w : BusWrite) (d : Chip) : Type 0 where
  pub data-write : bit1_clear w.port ≡ false
  pub waits : length (waiting d.queue) ≡ 256
  pub answers-4 : pass_write w d ≡ answered queue_full d

pub refused_full : (w : BusWrite) (d : Chip) → InRange d → ((pass_write w d).no ≡ accepted → ⊥) → Full w d
refused_full w d h n =
    by-test (bit1_clear w.port) (λ e. absurd (n (rw e at (write-waits w d h).number)))
    (λ e. by_order 256 d.queue.count
    (λ full. record {
      data-write = e;
      waits = length-waiting d.queue ∙ exactly d.queue.count full h.queue.count;
      answers-4 = rw (e, le-leb 256 d.queue.count full) at (passes-in-range w d (passes h));
    })
    (λ room. absurd (n (rw (e, lt-leb 256 d.queue.count room) at (write-waits w d h).number))))
  where
    exactly : (n : ℕ) → 256 ≤ n → n ≤ 256 → n ≡ 256
    exactly n a b = omega arith

-- the words that a course has were rendered by a course that was not stopped
pub course-first : (n k : ℕ) (ws : List BusWrite) (c : Chip) → k ≤ length (course n ws c).words → (course k ws c).no ≡ accepted
course-first n zero ws c = λ _. ap (λ (x : Course). x.no) (course-zero ws c)
course-first zero (suc k) ws c = rw (course-zero ws c) (λ h. absurd (omega arith))
course-first (suc n) (suc k) ws c =
    let p = pass_due (end_of c.core) ws c in
    by-same p.no accepted
    (λ y. rw (course-word n ws c refl y, course-word k ws c refl y) (λ h. course-first n k p.rest (after_one p.chip) (omega arith)))
    (λ y. rw (course-refused n ws c refl y) (λ h. absurd (omega arith)))
