-- A course is calls on a chip in range: what is due before a word, the word, and so on. Assumes nothing.
use mathlib.Core.List.{List, [], ◌∷◌, ◌++◌, append_assoc, append-nil}
use mathlib.Core.Path.{◌≡◌, refl, sym, ap, ◌∙◌}
use Prim.Native.Nat.{ℕ, zero, suc, ◌+◌, ◌*◌, ◌^◌, ◌<◌}
use native.Mathlib.Nat.{suc-mul}
use native.Mathlib.Omega.{arith}
use Rattle.refusals.specs.Numbers.{accepted}
use Rattle.laws.proofs.Tests.{by-same, tests}
use Rattle.queue.specs.declared.Write.{Write}
use Rattle.chip.specs.declared.Clocks.{Clocks}
use Rattle.chip.specs.declared.Chip.{Chip}
use Rattle.chip.proofs.InRange.{InRange}
use Rattle.clocking_word.specs.Word.{end_of, word_of}
use Rattle.clocking_block.specs.Block.{after_one}
use Rattle.bus_writes.specs.declared.BusWrite.{BusWrite}
use Rattle.capture_course.specs.Course.{Passed, pass_due, Course, and_then, course}
use Rattle.capture_course.proofs.Passed.{Kept, kept-end, due-kept}
use Rattle.capture_course.proofs.Courses.{one_kept, one-start, one-clocks, word_from, course-zero, course-word, course-refused}
use Rattle.laws_promises.specs.History.{Call, compute-next-sample, after, Entry, entry_of, Ledger, accepts, renders, entered, ledger}
use Rattle.laws_histories.specs.Histories.{AllAccepted, values}
use Rattle.laws_histories.proofs.Appending.{after-append, ledger-append, accepted-append}
use Rattle.laws_captures.specs.Captures.{due_calls, course_calls, data_writes}
use Rattle.laws_captures.proofs.DueWrites.{selected_by, data-append, Passes, due-calls}
use Rattle.laws_captures.proofs.OneWord.{word-fine, word-leaves, word-enters}

-- the calls of no word; of a word and those behind it; or of what was due ahead of a write that is refused
calls-zero : (ws : List BusWrite) (c : Chip) → course_calls 0 ws c ≡ []
unfolding course_calls
calls-zero ws c = refl

module _ (n : ℕ) (ws : List BusWrite) (c : Chip) where
  abbrev p : Passed
  p = pass_due (end_of c.core) ws c

  abbrev due : List Call
  due = due_calls (end_of c.core) ws c

  calls-on : p.no ≡ accepted → due ++ compute-next-sample ∷ course_calls n p.rest (after_one p.chip) ≡ course_calls (suc n) ws c
  unfolding course_calls
  calls-on z = search tests

  calls-stop : (p.no ≡ accepted → ⊥) → due ≡ course_calls (suc n) ws c
  unfolding course_calls
  calls-stop z = search tests

one_selected : (c : Chip) → (after_one c).core.selected ≡ c.core.selected
unfolding word_of
one_selected c = refl

values-append : (a b : List Entry) → values (a ++ b) ≡ values a ++ values b
values-append [] b = refl
values-append (x ∷ a) b = ap (λ (l : List ℕ). x.value ∷ l) (values-append a b)

-- the calls `calls` take the chip c and its ledger l through the course k
pub record Plays (ws : List BusWrite) (c : Chip) (l : Ledger) (calls : List Call) (k : Course) : Type 0 where
  pub passed : List BusWrite
  pub split : ws ≡ passed ++ k.rest
  pub chip : after calls c ≡ k.chip
  pub each : AllAccepted calls c
  pub words : values (ledger calls c l).words ≡ values l.words ++ k.words
  pub taken : (ledger calls c l).accepted ≡ l.accepted ++ data_writes c.core.selected passed

plays-none : (ws : List BusWrite) (c : Chip) (l : Ledger) → Plays ws c l [] (record { words = []; rest = ws; no = accepted; chip = c })
unfolding after ledger
plays-none ws c l =
    record {
      passed = [];
      split = refl;
      chip = refl;
      each = tt;
      words = sym (append-nil (values l.words));
      taken = sym (append-nil l.accepted);
    }

-- what was due, and then a refusal
plays-stop : (ws : List BusWrite) (c : Chip) (l : Ledger) (calls : List Call) (p : Passed) → Passes ws c l calls p
    → Plays ws c l calls (record { words = []; rest = p.rest; no = p.no; chip = p.chip })
plays-stop ws c l calls p q =
    record {
      passed = q.passed;
      split = q.split;
      chip = q.chip;
      each = q.each;
      words = ap (λ (m : Ledger). values m.words) q.entries ∙ sym (append-nil (values l.words));
      taken = ap (λ (m : Ledger). m.accepted) q.entries;
    }

-- what was due, a word, and what comes behind it
module _ (ws : List BusWrite) (c : Chip) (l : Ledger) (first : List Call) (p : Passed) (q : Passes ws c l first p)
    (h : InRange p.chip) (soon : end_of p.chip.core < 2 ^ 64) where
  abbrev d : Chip
  d = p.chip

  -- the ledger behind the word
  abbrev m : Ledger
  m = renders (entry_of d ∷ []) (accepts (data_writes c.core.selected q.passed) l)

  word_after : (calls : List Call) → after (first ++ compute-next-sample ∷ calls) c ≡ after calls (after_one d)
  unfolding after
  word_after calls =
      after-append first (compute-next-sample ∷ calls) c
      ∙ ap (after (compute-next-sample ∷ calls)) q.chip
      ∙ ap (after calls) (word-leaves d h soon)

  word_each : (calls : List Call) → AllAccepted calls (after_one d) → AllAccepted (first ++ compute-next-sample ∷ calls) c
  word_each calls each =
      accepted-append first (compute-next-sample ∷ calls) c q.each
      (rw q.chip (word-fine d h soon, rw (word-leaves d h soon) each))

  word-ledger : (calls : List Call) → ledger (first ++ compute-next-sample ∷ calls) c l ≡ ledger calls (after_one d) m
  unfolding ledger
  word-ledger calls =
      ledger-append first (compute-next-sample ∷ calls) c l
      ∙ ap (λ (x : Chip). ledger (compute-next-sample ∷ calls) x (ledger first c l)) q.chip
      ∙ ap (ledger (compute-next-sample ∷ calls) d) q.entries
      ∙ ap (λ (x : Chip). ledger calls x (entered compute-next-sample d (accepts (data_writes c.core.selected q.passed) l))) (word-leaves d h soon)
      ∙ ap (ledger calls (after_one d)) (word-enters d h soon (accepts (data_writes c.core.selected q.passed) l))

  plays-on : (calls : List Call) (k : Course) → Plays p.rest (after_one d) m calls k
      → Plays ws c l (first ++ compute-next-sample ∷ calls) (and_then (word_from d) k)
  plays-on calls k more =
      let selected : (after_one d).core.selected ≡ selected_by c.core.selected q.passed = one_selected d ∙ q.selected in
      let old = data_writes c.core.selected q.passed in
      record {
        passed = q.passed ++ more.passed;
        split = q.split ∙ ap (λ (xs : List BusWrite). q.passed ++ xs) more.split ∙ sym (append_assoc q.passed more.passed k.rest);
        chip = word_after calls ∙ more.chip;
        each = word_each calls more.each;
        words =
            ap (λ (x : Ledger). values x.words) (word-ledger calls)
            ∙ more.words
            ∙ ap (λ (xs : List ℕ). xs ++ k.words) (values-append l.words (entry_of d ∷ []))
            ∙ append_assoc (values l.words) (word_from d ∷ []) k.words;
        taken =
            ap (λ (x : Ledger). x.accepted) (word-ledger calls)
            ∙ more.taken
            ∙ ap (λ (n : ℕ). (l.accepted ++ old) ++ data_writes n more.passed) selected
            ∙ append_assoc l.accepted old (data_writes (selected_by c.core.selected q.passed) more.passed)
            ∙ ap (λ (xs : List Write). l.accepted ++ xs) (sym (data-append c.core.selected q.passed more.passed));
      }

-- the words end in time
later-end : (c e : Chip) (n : ℕ) → Kept c e → c.core.start + suc n * c.core.clocks.cycles < 2 ^ 64
    → (end_of e.core < 2 ^ 64) × ((after_one e).core.start + n * (after_one e).core.clocks.cycles < 2 ^ 64)
later-end c e n k soon =
    let cycles : (after_one e).core.clocks.cycles ≡ c.core.clocks.cycles = ap (λ (x : Clocks). x.cycles) (one-clocks e ∙ k.clocks) in
    let from : (after_one e).core.start ≡ end_of c.core = one-start e ∙ kept-end k in
    let whole : c.core.start + (n * c.core.clocks.cycles + c.core.clocks.cycles) < 2 ^ 64 = rw suc-mul at soon in
    (rw (kept-end k) (omega (arith, whole)), rw (from, cycles) (omega (arith, whole)))

abbrev InTime : ℕ → Chip → Type 0
InTime n c = c.core.start + n * c.core.clocks.cycles < 2 ^ 64

next-plays : (n : ℕ) (ws : List BusWrite) (c : Chip) (l : Ledger) (h : InRange c) → InTime (suc n) c
    → ((rest : List BusWrite) (e : Chip) (m : Ledger) → InRange e → InTime n e → Plays rest e m (course_calls n rest e) (course n rest e))
    → Plays ws c l (course_calls (suc n) ws c) (course (suc n) ws c)
next-plays n ws c l h soon more =
    let end = end_of c.core in
    let x = pass_due end ws c in
    let q = due-calls end ws c l h in
    let k = (due-kept end ws c h).kept in
    let ends = later-end c x.chip n k soon in
    by-same x.no accepted
    (λ z. rw (← calls-on n ws c z, course-word n ws c refl z)
    (plays-on ws c l (due_calls end ws c) x q k.range ends.0 (course_calls n x.rest (after_one x.chip)) (course n x.rest (after_one x.chip))
    (more x.rest (after_one x.chip) _ (one_kept k.range) ends.1)))
    (λ z. rw (← calls-stop n ws c z, course-refused n ws c refl z) (plays-stop ws c l (due_calls end ws c) x q))

no-plays : (ws : List BusWrite) (c : Chip) (l : Ledger) → Plays ws c l (course_calls 0 ws c) (course 0 ws c)
no-plays ws c l = rw (calls-zero ws c, course-zero ws c) (plays-none ws c l)

pub course-plays : (n : ℕ) (ws : List BusWrite) (c : Chip) (l : Ledger) → InRange c → c.core.start + n * c.core.clocks.cycles < 2 ^ 64
    → Plays ws c l (course_calls n ws c) (course n ws c)
course-plays zero ws c l h soon = no-plays ws c l
course-plays (suc n) ws c l h soon = next-plays n ws c l h soon (λ rest e m. course-plays n rest e m)

-- the calls of k words, and then of more
abbrev then_calls : ℕ → List Call → Course → List Call
then_calls more calls k = calls ++ course_calls more k.rest k.chip

pub calls-append : (k more : ℕ) (ws : List BusWrite) (c : Chip) → (course k ws c).no ≡ accepted
    → course_calls (k + more) ws c ≡ course_calls k ws c ++ course_calls more (course k ws c).rest (course k ws c).chip
calls-append zero more ws c e =
    let none : 0 + more ≡ more = omega arith in
    rw (none, calls-zero ws c, course-zero ws c)
calls-append (suc k) more ws c e =
    let x = pass_due (end_of c.core) ws c in
    let next : suc k + more ≡ suc (k + more) = omega arith in
    let first = due_calls (end_of c.core) ws c in
    let calls = course_calls k x.rest (after_one x.chip) in
    by-same x.no accepted
    (λ z. let one = course-word k ws c refl z in
    let rest = course k x.rest (after_one x.chip) in
    ap (λ (n : ℕ). course_calls n ws c) next
    ∙ sym (calls-on (k + more) ws c z)
    ∙ ap (λ (xs : List Call). first ++ compute-next-sample ∷ xs) (calls-append k more x.rest (after_one x.chip) (sym (ap (λ (y : Course). y.no) one) ∙ e))
    ∙ sym (append_assoc first (compute-next-sample ∷ calls) (course_calls more rest.rest rest.chip))
    ∙ ap (λ (xs : List Call). then_calls more xs rest) (calls-on k ws c z)
    ∙ ap (λ (y : Course). then_calls more (course_calls (suc k) ws c) y) (sym one))
    (λ z. absurd (z (sym (ap (λ (y : Course). y.no) (course-refused k ws c refl z)) ∙ e)))
