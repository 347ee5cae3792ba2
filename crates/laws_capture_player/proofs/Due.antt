-- What is due is passed before a word: the same is yet to be handed out; or a write is refused, and its line is the last. Assumes nothing.
use mathlib.Core.Bool.{true, false}
use mathlib.Core.List.{List, []}
use mathlib.Core.Logic.{⊎_elim}
use mathlib.Core.Path.{◌≡◌, refl, sym, ap, ◌∙◌}
use Prim.Native.Nat.{ℕ, suc, ◌-◌, ◌*◌, ◌≤◌, ◌<◌}
use native.Mathlib.Nat.{mul-le-mul}
use native.Mathlib.Omega.{arith}
use lib.ListN.{length}
use Rattle.refusals.specs.Numbers.{accepted}
use Rattle.clocking_word.specs.Word.{end_of}
use Rattle.capture_writes.proofs.Listed.{how-many}
use Rattle.capture_passing.specs.Due.{word_no}
use Rattle.capture_passing.specs.declared.Passing.{Passing}
use Rattle.capture_passing.proofs.Next.{word-can}
use Rattle.capture_passing.proofs.Listed.{Listed, due-listed}
use Rattle.capture_course.specs.Course.{Passed, pass_due}
use Rattle.capture_course.specs.Claims.{NoneBy}
use Rattle.capture_course.proofs.Passed.{Kept, due-kept, due-later, kept-end}
use Rattle.capture_course.proofs.Courses.{course-again, course-refused}
use Rattle.capture_steps.specs.declared.Player.{Player}
use Rattle.capture_steps.specs.Steps.{ends, passed_by, passes, last_line_of}
use Rattle.laws_capture_player.proofs.Standing.{writes_yet, course_yet, Stands}
use Rattle.laws_capture_player.proofs.Step.{Step, line_step}

module _ (text : List ℕ) (p : Player) (s : Stands text p) (some : 0 < p.words) where
  abbrev d : Passing
  d = passed_by text p

  abbrev due : Passed
  due = pass_due (end_of p.chip.core) (writes_yet text p) p.chip

  -- a word of a player can be rendered
  word_good : word_no p.chip ≡ accepted
  word_good =
      let k = p.chip.core.clocks.cycles in
      let one : 1 * k ≤ p.words * k = mul-le-mul {n₁ = 1} {m₁ = k} {n₂ = p.words} {m₂ = k} some (omega arith) in
      word-can s.range (omega (arith, one, s.early))

  listed : Listed text p.writes (passed_by text p) (pass_due (end_of p.chip.core) (writes_yet text p) p.chip)
  listed = due-listed text p.writes p.at p.chip word_good s.good

  counted : length due.rest ≡ d.writes
  counted = ap length (sym listed.rest) ∙ how-many text d.writes d.at

  more : p.words ≡ suc (p.words - 1)
  more = omega arith

  -- a write is refused: its line is the last
  pub refused-step : (room : ℕ) → 32 ≤ room → p.begun ≡ true → p.ended ≡ false → ((passed_by text p).no ≡ 0 → ⊥)
      → Step text room p (last_line_of (passed_by text p).no (passed_by text p).writes p) (ends p)
  refused-step room h b going z =
      let y : due.no ≡ 0 → ⊥ = λ e. z (listed.no ∙ e) in
      let is : course_yet text p ≡ record { words = []; rest = due.rest; no = due.no; chip = due.chip } = rw more (course-refused (p.words - 1) (writes_yet text p) p.chip refl y) in
      let small : due.no < 256 = ⊎_elim (λ e. omega arith) (λ e. omega arith) (due-kept (end_of p.chip.core) (writes_yet text p) p.chip s.range).number in
      line_step text room p h s b going d.no d.writes (rw listed.no small) listed.few (rw is) (rw is (sym listed.no)) (rw is counted)

  -- what is due is passed
  module _ (z : (passed_by text p).no ≡ 0) where
    abbrev q : Player
    q = passes d p

    y : due.no ≡ 0
    y = sym listed.no ∙ z

    kept : Kept p.chip d.chip
    kept = rw listed.chip (due-kept (end_of p.chip.core) (writes_yet text p) p.chip s.range).kept

    pub passed-stands : Stands text (passes (passed_by text p) p)
    passed-stands =
        record {
          verdict = s.verdict;
          range = kept.range;
          good = listed.good;
          few = omega (arith, listed.few, s.few);
          words = s.words;
          early = rw (kept.start, kept.clocks) s.early;
        }

    pub passed-course : course_yet text (passes (passed_by text p) p) ≡ course_yet text p
    passed-course = rw (listed.chip, listed.rest, more) (sym (course-again (p.words - 1) (writes_yet text p) p.chip s.range y))

    pub passed_none : NoneBy (end_of (passed_by text p).chip.core) (writes_yet text (passes (passed_by text p) p))
    passed_none = rw (kept-end kept, listed.rest) (due-later (end_of p.chip.core) (writes_yet text p) p.chip y)
