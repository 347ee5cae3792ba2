-- The claims of playing a capture: its course is calls on a new chip, so demand 3 speaks of it. Assumes nothing.
use mathlib.Core.List.{List, [], ◌∷◌, ◌++◌, append-nil}
use mathlib.Core.Path.{◌≡◌, refl, sym, ap, ◌∙◌}
use Prim.Native.Nat.{ℕ, ◌+◌, ◌*◌, ◌^◌, ◌≤◌, ◌<◌}
use native.Mathlib.Omega.{arith}
use borrow.Author.Tests.{eq-eqb}
use lib.ListN.{length}
use Rattle.refusals.specs.Numbers.{accepted}
use Rattle.laws.proofs.Tests.{by-eq, by-same}
use Rattle.clocks.specs.Clocks.{clocks_no}
use Rattle.chip.specs.declared.Chip.{Chip}
use Rattle.chip.proofs.InRange.{core-runs}
use Rattle.block_limits.proofs.Fits.{span_fits}
use Rattle.answers.specs.declared.Answered.{Answered}
use Rattle.bus_writes.specs.declared.BusWrite.{BusWrite}
use Rattle.calls_making.specs.Making.{made_of, default_variant, fresh, with_clocks}
use Rattle.dump_words.specs.Words.{lines_of}
use Rattle.output_lines.specs.Lines.{total_text}
use Rattle.capture.specs.Checked.{capture_of}
use Rattle.capture.proofs.Accepted.{Laid, accepted-laid, laid-clocks}
use Rattle.capture_output.specs.Ends.{first_line, last_line}
use Rattle.capture_played.specs.Whole.{writes_of, course_of, printed}
use Rattle.capture_course.specs.Course.{course}
use Rattle.capture_course.specs.Claims.{made}
use Rattle.capture_course.proofs.Courses.{course-kept, course-counted}
use Rattle.capture_course.proofs.Stops.{course-stopped, refused_full, course-first}
use Rattle.capture_course.proofs.Claimed.{courses}
use Rattle.laws_in_range.proofs.CallsInRange.{with-clocks-kept}
use Rattle.laws_promises.specs.History.{Entry, empty_ledger}
use Rattle.laws_promises.specs.Demand.{N, Holds}
use Rattle.laws_promises.proofs.Demand.{clocks-demand}
use Rattle.laws_histories.specs.Histories.{values}
use Rattle.laws_captures.specs.Captures.{course_calls, data_writes}
use Rattle.laws_captures.specs.Claims.{ledger_for, Stopped, AfterWord, CourseIsCalls, capture_ledger, CaptureIsCalls, Captures}
use Rattle.laws_captures.proofs.Playing.{Plays, course-plays, calls-append}

length-values : (ws : List Entry) → length (values ws) ≡ length ws
length-values [] = omega arith
length-values (x ∷ ws) = omega (arith, length-values ws)

-- a new chip starts at cycle 0, with number 0 selected
pub made-start : (master rate : ℕ) → ((made master rate).core.start ≡ 0) × ((made master rate).core.selected ≡ 0)
unfolding with_clocks made_of fresh
made-start master rate =
    by-eq (λ (a : Answered). (a.chip.core.start ≡ 0) × (a.chip.core.selected ≡ 0)) (clocks_no master rate) accepted (λ _. (refl, refl))
    (λ _. (refl, refl))

-- 65,536 words end before cycle 2^64
ends-soon : (master rate n : ℕ) → n ≤ 65536 → (made master rate).core.start + n * (made master rate).core.clocks.cycles < 2 ^ 64
ends-soon master rate n h =
    let cycles = (made master rate).core.clocks.cycles in
    let short : cycles < 4294967296 = (core-runs (with-clocks-kept master rate)).cycles in
    let span : n * cycles < 2 ^ 64 = span_fits n 0 cycles h (omega (arith, short)) in
    omega (arith, span, (made-start master rate).0)

module _ (master rate : ℕ) (ok : clocks_no master rate ≡ accepted) (n : ℕ) (few : n ≤ 65536) (ws : List BusWrite) where
  abbrev c : Chip
  c = made master rate

  plays : Plays ws c empty_ledger (course_calls n ws c) (course n ws c)
  plays = course-plays n ws c empty_ledger (with-clocks-kept master rate) (ends-soon master rate n few)

  demanded : Holds master rate default_variant (course n ws c).chip (ledger_for master rate n ws)
  demanded = rw (← plays.chip) (clocks-demand master rate ok (course_calls n ws c))

  numbered : N (ledger_for master rate n ws) ≡ length (course n ws c).words
  numbered = sym (length-values (ledger_for master rate n ws).words) ∙ ap length plays.words

  took : (ledger_for master rate n ws).accepted ≡ data_writes 0 plays.passed
  took = plays.taken ∙ ap (λ (selected : ℕ). data_writes selected plays.passed) (made-start master rate).1

  stops : ((course n ws c).no ≡ accepted → ⊥) → Stopped (course n ws c)
  stops z =
      let r = course-stopped n ws c z in
      let f = refused_full r.write (course n ws c).chip (course-kept n ws c (with-clocks-kept master rate)).range r.refused in
      record { write = r.write; behind = r.behind; next = r.next; data-write = f.data-write; full = f.waits; answers-4 = f.answers-4 }

  -- where n words have been rendered
  rendered : (course n ws c).no ≡ accepted → AfterWord master rate n ws
  rendered z =
      let none = courses.none-waits master rate n ws z in
      record {
        none = none;
        applied = sym (demanded.kept.writes ∙ rw (none, append-nil));
        counted = numbered ∙ (course-counted n ws c).all z;
        begins = λ more. calls-append n more ws c z;
      }

course-is : (master rate : ℕ) → clocks_no master rate ≡ accepted → (n : ℕ) → n ≤ 65536 → (ws : List BusWrite) → CourseIsCalls master rate n ws
course-is master rate ok n few ws =
    let p = plays master rate ok n few ws in
    record {
      chip = sym p.chip;
      each = p.each;
      words = p.words;
      counted = numbered master rate ok n few ws;
      holds = demanded master rate ok n few ws;
      passed = p.passed;
      split = p.split;
      taken = took master rate ok n few ws;
      stopped = stops master rate ok n few ws;
      after-word = λ k h. rendered master rate ok k (fewer master rate n ws k few h) ws (course-first n k ws (made master rate) h);
    }
  where
    fewer : (master rate n : ℕ) (ws : List BusWrite) (k : ℕ) → n ≤ 65536 → k ≤ length (course n ws (made master rate)).words → k ≤ 65536
    fewer master rate n ws k few h =
        let counted = course-counted n ws (made master rate) in
        by-same (course n ws (made master rate)).no accepted (λ z. omega (arith, counted.all z)) (λ z. omega (arith, counted.fewer z))

-- a checked capture has clocks that a chip takes, and 65,536 words at most
module _ (text : List ℕ) (ok : (capture_of text).no ≡ accepted) where
  laid : Laid text (capture_of text)
  laid = accepted-laid text ok

  calls : CourseIsCalls (capture_of text).master (capture_of text).rate (capture_of text).words (writes_of text)
  calls = course-is (capture_of text).master (capture_of text).rate (laid-clocks text (capture_of text) laid) (capture_of text).words laid.words (writes_of text)

  prints : printed text
      ≡ total_text (capture_of text).words
      ++ lines_of (values (capture_ledger text).words)
      ++ last_line (course_of text).no (capture_of text).writes (length (course_of text).rest)
  unfolding printed first_line course_of
  prints = rw (eq-eqb (capture_of text).no accepted ok, calls.words)

  capture-is : CaptureIsCalls text
  unfolding course_of
  capture-is = record { plays = refl; calls = calls; holds = calls.holds; prints = prints; counted = calls.counted }

pub captures : Captures
captures =
    record {
      course = course-is;
      -- the text's clocks are accepted and its words few enough, so nothing is left to assume
      capture = capture-is;
    }
