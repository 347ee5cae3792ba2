-- The lines of a course's words, and the cycles of one. Assumes nothing.
use mathlib.Core.List.{List, []}
use mathlib.Core.Path.{refl}
use Prim.Native.Nat.{ℕ, zero, suc, ◌*◌, ◌≤◌, ◌<◌}
use native.Mathlib.Nat.{le-div_iff_mul-le}
use native.Mathlib.Omega.{arith}
use lib.ListN.{length, length-append}
use Rattle.laws.proofs.Tests.{by-same}
use Rattle.refusals.specs.Numbers.{accepted}
use Rattle.text_put.specs.Text.{number_text}
use Rattle.clocks.proofs.Accepted.{Accepted, accepts}
use Rattle.chip.specs.declared.Chip.{Chip}
use Rattle.chip.proofs.InRange.{InRange}
use Rattle.clocking_word.specs.Word.{end_of}
use Rattle.clocking_block.specs.Block.{after_one, words_of}
use Rattle.dump_words.specs.Words.{lines_of}
use Rattle.bus_writes.specs.declared.BusWrite.{BusWrite}
use Rattle.capture_course.specs.Course.{pass_due, course}
use Rattle.capture_course.proofs.Passed.{due-kept}
use Rattle.capture_course.proofs.Courses.{word_from, one_kept, course-zero, course-word, course-refused}
use Rattle.laws_player.proofs.Words.{lines-few}

-- a word takes some cycles: the rate is far below the master clock
pub cycles-some : {c : Chip} → InRange c → 0 < c.core.clocks.cycles
cycles-some {c} h =
    let k : Accepted c.core.clocks.master c.core.clocks.rate = accepts _ _ h.clocks in
    rw h.cycles ((le-div_iff_mul-le {k = c.core.clocks.rate} {x = 1} {y = 4 * c.core.clocks.master} k.some).1 (omega (arith, k.slow)))

-- a word's line has six bytes at most
line-few : {c : Chip} → InRange c → length (number_text (word_from c) 10) ≤ 6
unfolding lines_of words_of
line-few {c} h = omega (arith, lines-few 1 h, length-append (number_text (word_from c) 10) [])

pub course-few : (n : ℕ) (ws : List BusWrite) {c : Chip} → InRange c → length (lines_of (course n ws c).words) ≤ 6 * n
unfolding lines_of
course-few zero ws {c} h = rw (course-zero ws c) (omega arith)
course-few (suc n) ws {c} h =
    let p = pass_due (end_of c.core) ws c in
    let r = (due-kept (end_of c.core) ws c h).kept.range in
    by-same p.no accepted
    (λ z.
    let more = course-few n p.rest (one_kept r) in
    let line = number_text (word_from p.chip) 10 in
    rw (course-word n ws c refl z) (omega (arith, more, line-few r, length-append line (lines_of (course n p.rest (after_one p.chip)).words))))
    (λ z. rw (course-refused n ws c refl z) (omega arith))
