-- The whole output is far shorter than any number that counts its bytes. Assumes nothing.
use mathlib.Core.List.{List, ◌++◌}
use mathlib.Core.Logic.{⊎_elim}
use Prim.Native.Nat.{ℕ, ◌+◌, ◌*◌, ◌^◌, ◌≤◌, ◌<◌}
use native.Mathlib.Omega.{arith}
use lib.ListN.{length, length-append}
use Rattle.laws.proofs.Tests.{by-eq}
use Rattle.laws_in_range.proofs.CallsInRange.{with-clocks-kept}
use Rattle.dump_words.specs.Words.{lines_of}
use Rattle.capture.specs.Checked.{capture_of}
use Rattle.capture.specs.declared.Captured.{Captured}
use Rattle.capture.proofs.Told.{told}
use Rattle.capture_writes.proofs.Listed.{how-many}
use Rattle.capture_course.specs.Course.{Course}
use Rattle.capture_course.proofs.Courses.{course-kept, course-counted}
use Rattle.capture_output.specs.Ends.{first_line, last_line}
use Rattle.capture_output.proofs.Saying.{first-few, last-few}
use Rattle.capture_played.specs.Whole.{made_for, writes_of, course_of, printed}
use Rattle.laws_capture_player.proofs.Words.{course-few}

module _ (text : List ℕ) where
  abbrev v : Captured
  v = capture_of text

  abbrev k : Course
  k = course_of text

  first_short : length (first_line v) ≤ 32
  first_short = let t = told text in first-few v t.no (omega (arith, t.line)) (omega (arith, t.words))

  words-short : length (lines_of (course_of text).words) ≤ 6 * 65536
  unfolding course_of
  words-short = omega (arith, course-few v.words (writes_of text) (with-clocks-kept v.master v.rate), (told text).words)

  last-short : length (last_line (course_of text).no v.writes (length (course_of text).rest)) ≤ 32
  unfolding course_of
  last-short =
      let r = with-clocks-kept v.master v.rate in
      let small : k.no < 256 = ⊎_elim (λ e. omega arith) (λ e. omega arith) (course-kept v.words (writes_of text) (made_for text) r).number in
      let w : v.writes < 65536 = omega (arith, (told text).writes) in
      last-few k.no v.writes (length k.rest) small w
      (omega (arith, w, (course-counted v.words (writes_of text) (made_for text)).rest, how-many text v.writes v.body))

  pub printed-short : length (printed text) < 2 ^ 32
  unfolding printed
  printed-short =
      let words = lines_of k.words in
      let last = last_line k.no v.writes (length k.rest) in
      by-eq (λ (l : List ℕ). length l < 2 ^ 32) v.no 0
      (λ _. omega (arith, first_short, words-short, last-short, length-append (first_line v ++ words) last, length-append (first_line v) words))
      (λ _. omega (arith, first_short))
