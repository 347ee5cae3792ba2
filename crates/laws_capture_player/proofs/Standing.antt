-- Where a player of captures stands, and what it has yet to hand out: the first line if it is not begun; the words of the course from
-- there on and the last line if it is not ended. Assumes nothing.
use mathlib.Core.Bool.{cond}
use mathlib.Core.List.{List, [], ◌++◌, append_assoc, append-nil}
use mathlib.Core.Path.{◌≡◌, refl, sym}
use Prim.Native.Nat.{ℕ, ◌+◌, ◌*◌, ◌^◌, ◌≤◌, ◌<◌}
use native.Mathlib.Nat.{mul-le-mul}
use native.Mathlib.Omega.{arith}
use borrow.Author.Tests.{eq-eqb, ne_eqb}
use lib.ListN.{length}
use Rattle.laws.proofs.Tests.{by-same}
use Rattle.chip.proofs.InRange.{InRange, core-runs}
use Rattle.dump_words.specs.Words.{lines_of}
use Rattle.bus_writes.specs.declared.BusWrite.{BusWrite}
use Rattle.laws_in_range.proofs.CallsInRange.{with-clocks-kept}
use Rattle.dump_played.proofs.Whole.{made-start}
use Rattle.capture_writes.specs.Writes.{writes_from}
use Rattle.capture.specs.Checked.{capture_of}
use Rattle.capture.proofs.Told.{told}
use Rattle.capture.proofs.Accepted.{accepted-laid}
use Rattle.capture_passing.proofs.Listed.{Good}
use Rattle.capture_course.specs.Course.{Course, course}
use Rattle.capture_output.specs.Ends.{first_line, last_line}
use Rattle.capture_steps.specs.declared.Player.{Player}
use Rattle.capture_steps.specs.Steps.{start_of}
use Rattle.capture_played.specs.Whole.{made_for, course_of, printed}

-- the writes that are yet to be passed, and the course from here
abbrev pub writes_yet : List ℕ → Player → List BusWrite
writes_yet text p = writes_from text p.writes p.at

abbrev pub course_yet : List ℕ → Player → Course
course_yet text p = course p.words (writes_yet text p) p.chip

-- a course of so many writes, as it is printed
abbrev pub course_text : ℕ → Course → List ℕ
course_text writes k = lines_of k.words ++ last_line k.no writes (length k.rest)

unfoldable pub rest_of : List ℕ → Player → List ℕ
rest_of text p =
    cond p.begun [] (first_line p.verdict) ++ cond p.ended [] (course_text p.verdict.writes (course_yet text p))

-- what holds of a player from its start on
pub record Stands (text : List ℕ) (p : Player) : Type 0 where
  pub verdict : p.verdict ≡ capture_of text
  pub range : InRange p.chip
  pub good : Good text p.writes p.at
  pub few : p.writes ≤ (capture_of text).writes
  pub words : p.words ≤ 65536
  -- the words end before cycle 2^64
  pub early : p.chip.core.start + p.words * p.chip.core.clocks.cycles < 2 ^ 64

module _ (text : List ℕ) where
  -- 65,536 words from cycle 0 on end long before cycle 2^64
  made-early : (made_for text).core.start + (capture_of text).words * (made_for text).core.clocks.cycles < 2 ^ 64
  made-early =
      let v = capture_of text in
      let k = (made_for text).core.clocks.cycles in
      let small : k ≤ 4294967296 = let s : k < 4294967296 = (core-runs (with-clocks-kept v.master v.rate)).cycles in omega arith in
      let all : v.words * k ≤ 65536 * 4294967296 = mul-le-mul {n₁ = v.words} {m₁ = k} {n₂ = 65536} {m₂ = 4294967296} (told text).words small in
      omega (arith, all, made-start v.master v.rate)

  -- a refused capture has no writes
  all-good : Good text (capture_of text).writes (capture_of text).body
  all-good k h =
      by-same (capture_of text).no 0 (λ e. (accepted-laid text e).write k h) (λ e. absurd (omega (arith, (told text).none e, h)))

  pub start-stands : Stands text (start_of text)
  unfolding start_of
  start-stands =
      let v = capture_of text in
      record {
        verdict = refl;
        range = with-clocks-kept v.master v.rate;
        good = all-good;
        few = omega arith;
        words = (told text).words;
        early = made-early;
      }

  pub rest-start : rest_of text (start_of text) ≡ printed text
  unfolding rest_of start_of printed course_of
  rest-start =
      let v = capture_of text in
      let k = course_of text in
      by-same v.no 0
      (λ e. rw (eq-eqb v.no 0 e) (sym (append_assoc (first_line v) (lines_of k.words) (last_line k.no v.writes (length k.rest)))))
      (λ e. rw (ne_eqb v.no 0 e) (append-nil (first_line v)))
