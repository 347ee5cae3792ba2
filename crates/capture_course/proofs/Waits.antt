-- What waits: a write that is passed is due by the word it stands before, so after the word nothing waits. Assumes nothing.
use mathlib.Core.Bool.{Bool, true, false, cond}
use mathlib.Core.List.{List, [], ◌∷◌, ◌++◌, append-nil}
use mathlib.Core.Path.{◌≡◌, refl, sym, ap, ◌∙◌}
use Prim.Native.Nat.{ℕ, zero, suc, ◌+◌, ◌≤◌}
use native.Mathlib.Omega.{arith}
use borrow.Author.Tests.{leb-false}
use lib.Dec.{leb}
use Rattle.refusals.specs.Numbers.{accepted, queue_full}
use Rattle.laws.specs.All.{All}
use Rattle.laws.proofs.Tests.{by-same}
use Rattle.laws.proofs.Lists.{all_append}
use Rattle.queue.specs.declared.Write.{Write}
use Rattle.queue.specs.Waiting.{waiting, late}
use Rattle.queue.proofs.Ring.{waiting-pushed}
use Rattle.queue.proofs.Due.{late-on}
use Rattle.queue_drain.proofs.Ruled.{waiting-drain}
use Rattle.chip.specs.declared.Chip.{Chip}
use Rattle.chip.proofs.InRange.{InRange, passes}
use Rattle.clocking_word.specs.Word.{end_of, drained, word_of}
use Rattle.clocking_block.specs.Block.{after_one}
use Rattle.answers.specs.Answers.{answered}
use Rattle.answers.specs.declared.Answered.{Answered}
use Rattle.calls_ports.specs.Ports.{bit1_clear}
use Rattle.bus.specs.Passing.{pass_write}
use Rattle.bus.proofs.Laws.{selects, queues, passes-in-range}
use Rattle.bus_writes.specs.declared.BusWrite.{BusWrite}
use Rattle.capture_course.specs.Course.{Passed, pass_due, Course, course}
use Rattle.capture_course.proofs.Passed.{kept-end, write_kept, due-kept, due-none, by-due}
use Rattle.capture_course.proofs.Courses.{one_kept, course-zero, course-word, course-refused}

-- a write as it waits
abbrev pub bound : BusWrite → Chip → Write
bound w c = record { stamp = w.stamp; register = c.core.selected; value = w.value }

-- A write that is passed selects, and what waits is the same; or it waits behind the rest, where there is room. Else it is refused.
pub record Waits (clear full : Bool) (x : Write) (c : Chip) (a : Answered) : Type 0 where
  pub list : a.no ≡ accepted → waiting a.chip.queue ≡ waiting c.queue ++ cond clear [] (x ∷ [])
  pub count : a.no ≡ accepted → a.chip.queue.count ≡ c.queue.count + cond clear 0 1
  pub number : a.no ≡ cond clear accepted (cond full queue_full accepted)

waits-cases : (clear full : Bool) (x : Write) (c d e : Chip) → d.queue ≡ c.queue
    → (full ≡ false → (waiting e.queue ≡ waiting c.queue ++ x ∷ []) × (e.queue.count ≡ c.queue.count + 1))
    → Waits clear full x c (cond clear (answered accepted d) (cond full (answered queue_full c) (answered accepted e)))
waits-cases true full x c d e p f =
    record { list = λ _. ap waiting p ∙ sym (append-nil (waiting c.queue)); count = λ _. rw p (omega arith); number = refl }
waits-cases false true x c d e p f = record { list = λ z. absurd (omega arith); count = λ z. absurd (omega arith); number = refl }
waits-cases false false x c d e p f = record { list = λ _. (f refl).0; count = λ _. (f refl).1; number = refl }

pub write-waits : (w : BusWrite) (c : Chip) → InRange c → Waits (bit1_clear w.port) (leb 256 c.queue.count) (bound w c) c (pass_write w c)
write-waits w c h =
    rw (passes-in-range w c (passes h))
    (waits-cases (bit1_clear w.port) (leb 256 c.queue.count) (bound w c) c (selects w c) (queues w c) refl
    (λ room. (waiting-pushed (bound w c) c.queue h.queue (leb-false 256 c.queue.count room), refl)))

-- Stamps at most an end: of what waits, and so of what waits once more that is due by it has been passed.
abbrev Soon : ℕ → List Write → Type 0
Soon end l = All (λ (x : Write). x.stamp ≤ end) l

soon-bound : (clear : Bool) {end : ℕ} (x : Write) → x.stamp ≤ end → Soon end (cond clear [] (x ∷ []))
soon-bound true x h = tt
soon-bound false x h = (h, tt)

pub due-soon : (end : ℕ) (ws : List BusWrite) (c : Chip) → InRange c → Soon end (waiting c.queue) → Soon end (waiting (pass_due end ws c).chip.queue)
due-soon end [] c h s = rw (due-none end [] c tt) s
due-soon end (w ∷ ws) c h s =
    by-due (λ (p : Passed). Soon end (waiting p.chip.queue)) end w ws c
    (λ soon z. due-soon end ws (pass_write w c).chip (write_kept w c h).range
    (rw ((write-waits w c h).list z)
    (all_append (λ (x : Write). x.stamp ≤ end) (waiting c.queue) _ s (soon-bound (bit1_clear w.port) (bound w c) soon))))
    (λ _ _. s)
    (λ _. s)

-- then the word takes it
late-none : (end : ℕ) (l : List Write) → Soon end l → late end l ≡ []
unfolding late
late-none end [] s = refl
late-none end (x ∷ l) s = late-on end x l s.0 ∙ late-none end l s.1

pub one_none : (c : Chip) → Soon (end_of c.core) (waiting c.queue) → waiting (after_one c).queue ≡ []
unfolding word_of drained
one_none c s = waiting-drain (end_of c.core) c.core.voice c.queue ∙ late-none (end_of c.core) (waiting c.queue) s

-- after what is due before a word, and the word
pub word_none : (ws : List BusWrite) (c : Chip) → InRange c → waiting c.queue ≡ []
    → waiting (after_one (pass_due (end_of c.core) ws c).chip).queue ≡ []
word_none ws c h e =
    let end = end_of c.core in
    let d = (pass_due end ws c).chip in
    let same : end_of d.core ≡ end = kept-end (due-kept end ws c h).kept in
    one_none d (rw same (due-soon end ws c h (rw e tt)))

pub course-none : (n : ℕ) (ws : List BusWrite) (c : Chip) → InRange c → waiting c.queue ≡ [] → (course n ws c).no ≡ accepted
    → waiting (course n ws c).chip.queue ≡ []
course-none zero ws c h e z = ap (λ (k : Course). waiting k.chip.queue) (course-zero ws c) ∙ e
course-none (suc n) ws c h e z =
    let p = pass_due (end_of c.core) ws c in
    by-same p.no accepted
    (λ y. let one = course-word n ws c refl y in
    ap (λ (k : Course). waiting k.chip.queue) one
    ∙ course-none n p.rest (after_one p.chip) (one_kept (due-kept (end_of c.core) ws c h).kept.range) (word_none ws c h e)
    (sym (ap (λ (k : Course). k.no) one) ∙ z))
    (λ y. absurd (y (sym (ap (λ (k : Course). k.no) (course-refused n ws c refl y)) ∙ z)))
