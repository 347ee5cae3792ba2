-- Laws of a course: words before which nothing is due are one block, and a course goes on from where it stands. Assumes nothing.
use mathlib.Core.List.{List, [], ◌∷◌}
use mathlib.Core.Logic.{◌⊎◌, inl}
use mathlib.Core.Path.{◌≡◌, refl, sym, ap, ◌∙◌}
use Prim.Native.Nat.{ℕ, zero, suc, ◌+◌, ◌*◌, ◌≤◌, ◌<◌}
use native.Mathlib.Nat.{suc-mul}
use native.Mathlib.Omega.{arith}
use lib.ListN.{length}
use Rattle.refusals.specs.Numbers.{accepted, queue_full}
use Rattle.laws.proofs.Tests.{by-same, tests}
use Rattle.chip.specs.declared.Clocks.{Clocks}
use Rattle.chip.specs.declared.Chip.{Chip}
use Rattle.chip.proofs.InRange.{InRange}
use Rattle.clocking_word.specs.Word.{end_of, word_of}
use Rattle.clocking_block.specs.Block.{after_one, after_words, words_of}
use Rattle.bus_writes.specs.declared.BusWrite.{BusWrite}
use Rattle.laws_in_range.proofs.CallsInRange.{words-kept}
use Rattle.capture_course.specs.Course.{Passed, pass_due, Course, and_then, course}
use Rattle.capture_course.specs.Claims.{NoneBy, followed_by}
use Rattle.capture_course.proofs.Passed.{Kept, kept-end, due-kept, due-none, due-again, due-rest}

-- no word; a word, once what is due before it has been passed; or the refusal
pub course-zero : (ws : List BusWrite) (c : Chip) → course 0 ws c ≡ record { words = []; rest = ws; no = accepted; chip = c }
unfolding course
course-zero ws c = refl

abbrev pub word_from : Chip → ℕ
word_from c = (word_of c.core c.queue).word

module _ (n : ℕ) (ws : List BusWrite) (c : Chip) where
  abbrev p : Passed
  p = pass_due (end_of c.core) ws c

  renders : p.no ≡ accepted → and_then (word_from p.chip) (course n p.rest (after_one p.chip)) ≡ course (suc n) ws c
  unfolding course
  renders z = search tests

  stops : (p.no ≡ accepted → ⊥) → record { words = []; rest = p.rest; no = p.no; chip = p.chip } ≡ course (suc n) ws c
  unfolding course
  stops z = search tests

  pub course-word : {q : Passed} → p ≡ q → q.no ≡ accepted → course (suc n) ws c ≡ and_then (word_from q.chip) (course n q.rest (after_one q.chip))
  course-word e = rw (← e) (λ z. sym (renders z))

  pub course-refused : {q : Passed} → p ≡ q → (q.no ≡ accepted → ⊥)
      → course (suc n) ws c ≡ record { words = []; rest = q.rest; no = q.no; chip = q.chip }
  course-refused e = rw (← e) (λ z. sym (stops z))

-- what is due may be passed ahead
pub course-again : (n : ℕ) (ws : List BusWrite) (c : Chip) → InRange c → (pass_due (end_of c.core) ws c).no ≡ accepted
    → course (suc n) ws c ≡ course (suc n) (pass_due (end_of c.core) ws c).rest (pass_due (end_of c.core) ws c).chip
course-again n ws c h e =
    let p = pass_due (end_of c.core) ws c in
    let same : end_of p.chip.core ≡ end_of c.core = kept-end (due-kept (end_of c.core) ws c h).kept in
    course-word n ws c refl e
    ∙ sym (course-word n p.rest p.chip (ap (λ (end : ℕ). pass_due end p.rest p.chip) same ∙ due-again (end_of c.core) ws c e) refl)

-- a word moves the start to its end
pub one-start : (c : Chip) → (after_one c).core.start ≡ end_of c.core
unfolding word_of
one-start c = refl

pub one-clocks : (c : Chip) → (after_one c).core.clocks ≡ c.core.clocks
unfolding word_of
one-clocks c = refl

none-earlier : {a b : ℕ} (ws : List BusWrite) → a ≤ b → NoneBy b ws → NoneBy a ws
none-earlier [] h k = tt
none-earlier (w ∷ ws) h k = omega arith

none_first : (m : ℕ) → 0 + m ≡ m
none_first m = omega arith

one-first : (n m : ℕ) → suc n + m ≡ suc (n + m)
one-first n m = omega arith

pub blocks : (n m : ℕ) (ws : List BusWrite) (c : Chip) → NoneBy (c.core.start + n * c.core.clocks.cycles) ws
    → course (n + m) ws c ≡ followed_by (words_of n c) (course m ws (after_words n c))
unfolding course after_words words_of
blocks zero m ws c h = ap (λ (k : ℕ). course k ws c) (none_first m)
blocks (suc n) m ws c h =
    let k = c.core.clocks.cycles in
    let ends : c.core.start + suc n * k ≡ c.core.start + k + n * k = rw suc-mul (omega arith) in
    let later : NoneBy (c.core.start + k + n * k) ws = rw ends at h in
    ap (λ (x : ℕ). course x ws c) (one-first n m)
    ∙ course-word (n + m) ws c (due-none (end_of c.core) ws c (none-earlier ws (omega arith) later)) refl
    ∙ ap (and_then (word_from c)) (blocks n m ws (after_one c) (rw (one-start c, one-clocks c) later))

-- n words and then m
abbrev then_more : ℕ → Course → Course
then_more m k = followed_by k.words (course m k.rest k.chip)

pub course-append : (n m : ℕ) (ws : List BusWrite) (c : Chip) → (course n ws c).no ≡ accepted
    → course (n + m) ws c ≡ followed_by (course n ws c).words (course m (course n ws c).rest (course n ws c).chip)
course-append zero m ws c e = ap (λ (k : ℕ). course k ws c) (none_first m) ∙ ap (then_more m) (sym (course-zero ws c))
course-append (suc n) m ws c e =
    let p = pass_due (end_of c.core) ws c in
    by-same p.no accepted
    (λ z. let one = course-word n ws c refl z in
    ap (λ (x : ℕ). course x ws c) (one-first n m)
    ∙ course-word (n + m) ws c refl z
    ∙ ap (and_then (word_from p.chip)) (course-append n m p.rest (after_one p.chip) (sym (ap (λ (k : Course). k.no) one) ∙ e))
    ∙ ap (then_more m) (sym one))
    (λ z. absurd (z (sym (ap (λ (k : Course). k.no) (course-refused n ws c refl z)) ∙ e)))

-- a course that starts in range stays in range, and is stopped by 4 alone
pub record CourseKept (c : Chip) (k : Course) : Type 0 where
  pub range : InRange k.chip
  pub clocks : k.chip.core.clocks ≡ c.core.clocks
  pub start : k.chip.core.start ≡ c.core.start + length k.words * c.core.clocks.cycles
  pub number : (k.no ≡ accepted) ⊎ (k.no ≡ queue_full)

pub one_kept : {c : Chip} → InRange c → InRange (after_one c)
unfolding after_words
one_kept h = words-kept 1 h

-- the words of d, after what was due, and one word more of c
start-on : (c d : Chip) (n s : ℕ) → Kept c d → s ≡ (after_one d).core.start + n * (after_one d).core.clocks.cycles
    → s ≡ c.core.start + suc n * c.core.clocks.cycles
start-on c d n s k e =
    let cycles : (after_one d).core.clocks.cycles ≡ c.core.clocks.cycles = ap (λ (x : Clocks). x.cycles) (one-clocks d ∙ k.clocks) in
    let from : s ≡ (after_one d).core.start + n * c.core.clocks.cycles = rw cycles at e in
    let end : (after_one d).core.start ≡ end_of c.core = one-start d ∙ kept-end k in
    rw suc-mul (omega (arith, from, end))

pub course-kept : (n : ℕ) (ws : List BusWrite) (c : Chip) → InRange c → CourseKept c (course n ws c)
course-kept zero ws c h = rw (course-zero ws c) (record { range = h; clocks = refl; start = omega arith; number = inl refl })
course-kept (suc n) ws c h =
    let p = pass_due (end_of c.core) ws c in
    let d = due-kept (end_of c.core) ws c h in
    by-same p.no accepted
    (λ z. let more = course-kept n p.rest (after_one p.chip) (one_kept d.kept.range) in
    rw (course-word n ws c refl z)
    (record {
      range = more.range;
      clocks = more.clocks ∙ one-clocks p.chip ∙ d.kept.clocks;
      start = start-on c p.chip _ _ d.kept more.start;
      number = more.number;
    }))
    (λ z. rw (course-refused n ws c refl z)
    (record { range = d.kept.range; clocks = d.kept.clocks; start = omega (arith, d.kept.start); number = d.number }))

-- as many words as are asked for, or fewer where a write was refused; and no more writes are left than there were
pub record Counted (n : ℕ) (ws : List BusWrite) (k : Course) : Type 0 where
  pub all : k.no ≡ accepted → length k.words ≡ n
  pub fewer : (k.no ≡ accepted → ⊥) → length k.words < n
  pub rest : length k.rest ≤ length ws

pub course-counted : (n : ℕ) (ws : List BusWrite) (c : Chip) → Counted n ws (course n ws c)
course-counted zero ws c = rw (course-zero ws c) (record { all = λ _. refl; fewer = λ z. absurd (z refl); rest = omega arith })
course-counted (suc n) ws c =
    let p = pass_due (end_of c.core) ws c in
    let left = due-rest (end_of c.core) ws c in
    by-same p.no accepted
    (λ z. let more = course-counted n p.rest (after_one p.chip) in
    rw (course-word n ws c refl z)
    (record {
      all = λ e. omega (arith, more.all e);
      fewer = λ e. omega (arith, more.fewer e);
      rest = omega (arith, more.rest, left);
    }))
    (λ z. rw (course-refused n ws c refl z)
    (record { all = λ e. absurd (z e); fewer = λ _. omega arith; rest = left }))
