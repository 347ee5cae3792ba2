-- 4 comes exactly at the 257th data write between two ends, as nothing waits at the first of them. Assumes nothing.
use mathlib.Core.Bool.{Bool, true, false, cond}
use mathlib.Core.List.{List, [], ◌∷◌}
use mathlib.Core.Path.{◌≡◌, refl, sym, ap, ◌∙◌}
use Prim.Native.Nat.{ℕ, zero, ◌+◌, ◌≤◌, ◌<◌}
use native.Mathlib.Omega.{arith}
use borrow.Author.Tests.{le-leb, lt-leb}
use lib.Dec.{leb}
use lib.ListN.{length}
use Rattle.refusals.specs.Numbers.{accepted, queue_full}
use Rattle.laws.proofs.Tests.{by_order, by-same, on-le, on-gt, on-true, on-false}
use Rattle.queue.specs.Waiting.{waiting}
use Rattle.queue.proofs.Ring.{length-waiting}
use Rattle.chip.specs.declared.Chip.{Chip}
use Rattle.chip.proofs.InRange.{InRange}
use Rattle.clocking_word.specs.Word.{end_of}
use Rattle.clocking_block.specs.Block.{after_one}
use Rattle.calls_ports.specs.Ports.{bit1_clear}
use Rattle.bus.specs.Passing.{pass_write}
use Rattle.bus_writes.specs.declared.BusWrite.{BusWrite}
use Rattle.capture_course.specs.Course.{Passed, pass_due, Course, course}
use Rattle.capture_course.specs.Claims.{data_due}
use Rattle.capture_course.proofs.Passed.{write_kept, due-passes, due-refused, due-none}
use Rattle.capture_course.proofs.Courses.{course-zero, course-word, course-refused, course-append, course-kept}
use Rattle.capture_course.proofs.Waits.{write-waits, course-none}

-- the number where n wait, those yet to be passed before a word counted
abbrev pub number_for : ℕ → ℕ
number_for n = cond (leb n 256) accepted queue_full

has_room : (n : ℕ) → n ≤ 256 → number_for n ≡ accepted
has_room n h = sym (on-le _ _ _ _ _ h refl)

has-none : (n : ℕ) → 256 < n → number_for n ≡ queue_full
has-none n h = sym (on-gt _ _ _ _ _ h refl)

none-late : (end : ℕ) (w : BusWrite) (ws : List BusWrite) → end < w.stamp → data_due end (w ∷ ws) ≡ 0
none-late end w ws late = sym (on-gt _ _ _ _ _ late refl)

pub by-test : {P : Type 0} (t : Bool) → (t ≡ true → P) → (t ≡ false → P) → P
by-test true f g = f refl
by-test false f g = g refl

-- the next write, which selects or waits
module _ (end : ℕ) (w : BusWrite) (ws : List BusWrite) (c : Chip) (h : InRange c) (soon : w.stamp ≤ end) where
  abbrev d : Chip
  d = (pass_write w c).chip

  passed_on : (n : ℕ) → (pass_write w c).no ≡ accepted → (pass_due end ws d).no ≡ number_for (d.queue.count + data_due end ws)
      → d.queue.count + data_due end ws ≡ n → (pass_due end (w ∷ ws) c).no ≡ number_for n
  passed_on n z more e = ap (λ (p : Passed). p.no) (due-passes end w ws c soon z) ∙ more ∙ ap number_for e

  -- bit 1 clear: it is passed, and as many wait
  selects-on : bit1_clear w.port ≡ true → (pass_due end ws d).no ≡ number_for (d.queue.count + data_due end ws)
      → (pass_due end (w ∷ ws) c).no ≡ number_for (c.queue.count + data_due end (w ∷ ws))
  selects-on e more =
      let z : (pass_write w c).no ≡ accepted = rw e at (write-waits w c h).number in
      let count : d.queue.count ≡ c.queue.count + 0 = rw e at ((write-waits w c h).count z) in
      let here : data_due end (w ∷ ws) ≡ data_due end ws = sym (on-le _ _ _ _ _ soon (on-true _ _ _ _ e refl)) in
      passed_on (c.queue.count + data_due end (w ∷ ws)) z more (omega (arith, count, here))

  -- set: with room for it one more waits, and else it is refused
  data-here : bit1_clear w.port ≡ false → data_due end (w ∷ ws) ≡ data_due end ws + 1
  data-here e = sym (on-le _ _ _ _ _ soon (on-false _ _ _ _ e refl))

  queues-on : bit1_clear w.port ≡ false → c.queue.count < 256 → (pass_due end ws d).no ≡ number_for (d.queue.count + data_due end ws)
      → (pass_due end (w ∷ ws) c).no ≡ number_for (c.queue.count + data_due end (w ∷ ws))
  queues-on e room more =
      let z : (pass_write w c).no ≡ accepted = rw (e, lt-leb 256 c.queue.count room) at (write-waits w c h).number in
      let count : d.queue.count ≡ c.queue.count + 1 = rw e at ((write-waits w c h).count z) in
      passed_on (c.queue.count + data_due end (w ∷ ws)) z more (omega (arith, count, data-here e))

  refuses-on : bit1_clear w.port ≡ false → 256 ≤ c.queue.count → (pass_due end (w ∷ ws) c).no ≡ number_for (c.queue.count + data_due end (w ∷ ws))
  refuses-on e full =
      let z : (pass_write w c).no ≡ queue_full = rw (e, le-leb 256 c.queue.count full) at (write-waits w c h).number in
      let never : (pass_write w c).no ≡ accepted → ⊥ = λ y. omega (arith, z, y) in
      ap (λ (p : Passed). p.no) (due-refused end w ws c soon never) ∙ z ∙ sym (has-none (c.queue.count + data_due end (w ∷ ws)) (omega (arith, data-here e)))

  data-on : (pass_due end ws d).no ≡ number_for (d.queue.count + data_due end ws)
      → (pass_due end (w ∷ ws) c).no ≡ number_for (c.queue.count + data_due end (w ∷ ws))
  data-on more =
      by-test (bit1_clear w.port) (λ e. selects-on e more)
      (λ e. by_order 256 c.queue.count (refuses-on e) (λ room. queues-on e room more))

pub due-number : (end : ℕ) (ws : List BusWrite) (c : Chip) → InRange c → (pass_due end ws c).no ≡ number_for (c.queue.count + data_due end ws)
due-number end [] c h = ap (λ (p : Passed). p.no) (due-none end [] c tt) ∙ sym (has_room (c.queue.count + 0) (omega (arith, h.queue.count)))
due-number end (w ∷ ws) c h =
    by_order w.stamp end
    (λ soon. data-on end w ws c h soon (due-number end ws (pass_write w c).chip (write_kept w c h).range))
    (λ late. ap (λ (p : Passed). p.no) (due-none end (w ∷ ws) c late)
    ∙ sym (has_room (c.queue.count + data_due end (w ∷ ws)) (omega (arith, h.queue.count, none-late end w ws late))))

-- a word
word_number : (ws : List BusWrite) (c : Chip) → (course 1 ws c).no ≡ (pass_due (end_of c.core) ws c).no
word_number ws c =
    let p = pass_due (end_of c.core) ws c in
    by-same p.no accepted
    (λ z. ap (λ (k : Course). k.no) (course-word 0 ws c refl z) ∙ ap (λ (k : Course). k.no) (course-zero p.rest (after_one p.chip)) ∙ sym z)
    (λ z. ap (λ (k : Course). k.no) (course-refused 0 ws c refl z))

pub course-full : (n : ℕ) (ws : List BusWrite) (c : Chip) → InRange c → waiting c.queue ≡ [] → (course n ws c).no ≡ accepted
    → (course (n + 1) ws c).no ≡ number_for (data_due (end_of (course n ws c).chip.core) (course n ws c).rest)
course-full n ws c h e z =
    let k = course n ws c in
    let end = end_of k.chip.core in
    let due = data_due end k.rest in
    let empty : k.chip.queue.count ≡ 0 = sym (length-waiting k.chip.queue) ∙ ap length (course-none n ws c h e z) in
    let only : 0 + due ≡ due = omega arith in
    ap (λ (x : Course). x.no) (course-append n 1 ws c z)
    ∙ word_number k.rest k.chip
    ∙ due-number end k.rest k.chip (course-kept n ws c h).range
    ∙ ap (λ (n : ℕ). number_for (n + due)) empty
    ∙ ap number_for only
