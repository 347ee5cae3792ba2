-- The first line, the last one, and the end: each step is the next part of what is yet to be handed out. Assumes nothing.
use mathlib.Core.Bool.{true, false}
use mathlib.Core.List.{List, [], ◌++◌, append-nil}
use mathlib.Core.Path.{◌≡◌, refl, sym, ap, ◌∙◌}
use Prim.Native.Nat.{ℕ, ◌≤◌, ◌<◌}
use native.Mathlib.Omega.{arith}
use lib.ListN.{length}
use Rattle.dump_words.specs.Words.{lines_of}
use Rattle.capture.proofs.Told.{Told, told}
use Rattle.capture_writes.proofs.Listed.{how-many}
use Rattle.capture_course.proofs.Courses.{course-zero}
use Rattle.capture_output.specs.Ends.{first_line}
use Rattle.capture_output.proofs.Saying.{first-few, first_some, last-few, last_some}
use Rattle.capture_steps.specs.declared.Player.{Player}
use Rattle.capture_steps.specs.Steps.{begins, ends, last_line_of}
use Rattle.laws_capture_player.proofs.Standing.{writes_yet, course_yet, course_text, rest_of, Stands}

-- a piece is the next part of the rest, empty only where nothing is left, and fits its buffer
pub record Step (text : List ℕ) (room : ℕ) (p : Player) (piece : List ℕ) (next : Player) : Type 0 where
  pub stands : Stands text next
  pub part : piece ++ rest_of text next ≡ rest_of text p
  pub last : piece ≡ [] → rest_of text p ≡ []
  pub within : length piece ≤ room

-- what is left once the first line is handed out, and once the last one is
module _ (text : List ℕ) (p : Player) (b : p.begun ≡ true) where
  pub rest_ended : p.ended ≡ true → rest_of text p ≡ []
  unfolding rest_of
  rest_ended e = rw (b, e)

  pub rest-going : p.ended ≡ false → rest_of text p ≡ course_text p.verdict.writes (course_yet text p)
  unfolding rest_of
  rest-going e = rw (b, e)

module _ (text : List ℕ) (room : ℕ) (p : Player) (h : 32 ≤ room) (s : Stands text p) where
  verdict-told : Told p.verdict
  verdict-told = rw s.verdict (told text)

  pub first_step_lem : p.begun ≡ false → Step text room p (first_line p.verdict) (begins p)
  unfolding rest_of
  first_step_lem b =
      let t = verdict-told in
      record {
        stands = record { verdict = s.verdict; range = s.range; good = s.good; few = s.few; words = s.words; early = s.early };
        part = rw b;
        last = λ e. absurd (first_some p.verdict e);
        within = omega (arith, first-few p.verdict t.no (omega (arith, t.line)) (omega (arith, t.words)), h);
      }

  pub none-step : p.begun ≡ true → p.ended ≡ true → Step text room p [] p
  none-step b e = record { stands = s; part = refl; last = λ _. rest_ended text p b e; within = omega arith }

  module _ (b : p.begun ≡ true) (going : p.ended ≡ false) where
    -- a last line that is all that is left
    pub line_step : (number left : ℕ) → number < 256 → left ≤ p.writes → (course_yet text p).words ≡ [] → (course_yet text p).no ≡ number
        → length (course_yet text p).rest ≡ left → Step text room p (last_line_of number left p) (ends p)
    unfolding lines_of
    line_step number left n l none no-is left_is =
        let t = verdict-told in
        let w : p.verdict.writes < 65536 = omega (arith, t.writes) in
        let rest : rest_of text p ≡ last_line_of number left p = rest-going text p b going ∙ rw (none, no-is, left_is) in
        record {
          stands = record { verdict = s.verdict; range = s.range; good = s.good; few = s.few; words = s.words; early = s.early };
          part = ap (λ (r : List ℕ). last_line_of number left p ++ r) (rest_ended text (ends p) b refl) ∙ append-nil (last_line_of number left p) ∙ sym rest;
          last = λ e. absurd (last_some number p.verdict.writes left e);
          within = omega (arith, last-few number p.verdict.writes left n w (omega (arith, s.few, (told text).writes, l)), h);
        }

    -- no word is left
    pub last_step_lem : p.words ≡ 0 → Step text room p (last_line_of 0 p.writes p) (ends p)
    last_step_lem z =
        let is : course_yet text p ≡ record { words = []; rest = writes_yet text p; no = 0; chip = p.chip } = rw z (course-zero (writes_yet text p) p.chip) in
        line_step 0 p.writes (omega arith) (omega arith) (rw is) (rw is) (rw is (how-many text p.writes p.at))
