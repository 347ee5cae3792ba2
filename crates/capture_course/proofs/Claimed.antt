-- The claims of a course, each by its law. Assumes nothing.
use mathlib.Core.List.{List, []}
use mathlib.Core.Path.{◌≡◌, refl, sym, ap, ◌∙◌}
use Prim.Native.Nat.{ℕ, zero, suc, ◌+◌}
use native.Mathlib.Omega.{arith}
use Rattle.refusals.specs.Numbers.{accepted}
use Rattle.laws.proofs.Tests.{by-eq, by-same}
use Rattle.clocks.specs.Clocks.{clocks_no}
use Rattle.queue.specs.Waiting.{waiting}
use Rattle.queue.proofs.Laws.{waiting-empty}
use Rattle.chip.specs.declared.Chip.{Chip}
use Rattle.chip.proofs.InRange.{InRange}
use Rattle.clocking_word.specs.Word.{end_of}
use Rattle.clocking_block.specs.Block.{after_one}
use Rattle.answers.specs.declared.Answered.{Answered}
use Rattle.calls_making.specs.Making.{made_of, fresh, with_clocks}
use Rattle.laws_in_range.proofs.CallsInRange.{with-clocks-kept}
use Rattle.bus_writes.specs.declared.BusWrite.{BusWrite}
use Rattle.capture_course.specs.Course.{pass_due, Course, course}
use Rattle.capture_course.specs.Claims.{NoneBy, made, Courses}
use Rattle.capture_course.proofs.Passed.{kept-end, due-kept, due-later}
use Rattle.capture_course.proofs.Courses.{one-start, one_kept, course-zero, course-word, course-refused, blocks}
use Rattle.capture_course.proofs.Waits.{course-none}
use Rattle.capture_course.proofs.Full.{course-full}

-- on a new chip nothing waits
pub made_none : (master rate : ℕ) → waiting (made master rate).queue ≡ []
unfolding with_clocks made_of fresh
made_none master rate =
    by-eq (λ (a : Answered). waiting a.chip.queue ≡ []) (clocks_no master rate) accepted (λ _. waiting-empty) (λ _. waiting-empty)

-- no write that is left is due by the last word's end
abbrev DueBy : Course → Type 0
DueBy k = NoneBy k.chip.core.start k.rest

abbrev On : ℕ → Type 0
On n = (ws : List BusWrite) (c : Chip) → InRange c → NoneBy c.core.start ws → (course n ws c).no ≡ accepted → DueBy (course n ws c)

word-due : (ws : List BusWrite) (c : Chip) → InRange c → (pass_due (end_of c.core) ws c).no ≡ accepted
    → NoneBy (after_one (pass_due (end_of c.core) ws c).chip).core.start (pass_due (end_of c.core) ws c).rest
word-due ws c h y =
    let end = end_of c.core in
    let d = (pass_due end ws c).chip in
    let same : (after_one d).core.start ≡ end = one-start d ∙ kept-end (due-kept end ws c h).kept in
    rw same (due-later end ws c y)

words-due : (n : ℕ) → On n → (ws : List BusWrite) (c : Chip) → InRange c → (course (suc n) ws c).no ≡ accepted → DueBy (course (suc n) ws c)
words-due n on ws c h z =
    let p = pass_due (end_of c.core) ws c in
    by-same p.no accepted
    (λ y. let one = course-word n ws c refl y in
    rw one
    (on p.rest (after_one p.chip) (one_kept (due-kept (end_of c.core) ws c h).kept.range) (word-due ws c h y)
    (sym (ap (λ (k : Course). k.no) one) ∙ z)))
    (λ y. absurd (y (sym (ap (λ (k : Course). k.no) (course-refused n ws c refl y)) ∙ z)))

course-on : (n : ℕ) → On n
course-on zero ws c h d z = rw (course-zero ws c) d
course-on (suc n) ws c h d z = words-due n (course-on n) ws c h z

pub course-due : (n : ℕ) (ws : List BusWrite) (c : Chip) → InRange c → (course (n + 1) ws c).no ≡ accepted
    → NoneBy (course (n + 1) ws c).chip.core.start (course (n + 1) ws c).rest
course-due n ws c h =
    let next : n + 1 ≡ suc n = omega arith in
    rw next (words-due n (course-on n) ws c h)

pub courses : Courses
courses =
    record {
      blocks = blocks;
      none-waits = λ master rate n ws. course-none n ws (made master rate) (with-clocks-kept master rate) (made_none master rate);
      none-due = λ master rate n ws. course-due n ws (made master rate) (with-clocks-kept master rate);
      full = λ master rate n ws. course-full n ws (made master rate) (with-clocks-kept master rate) (made_none master rate);
    }
