-- A piece is the next part of what is yet to be handed out: each step is, and a piece is steps one behind the other. Assumes nothing.
use mathlib.Core.Bool.{Bool, true, false, cond}
use mathlib.Core.List.{List, []}
use mathlib.Core.Path.{◌≡◌, refl, sym, ap, ◌∙◌}
use Prim.Native.Nat.{ℕ, ◌≤◌, ◌<◌}
use native.Mathlib.Omega.{arith}
use borrow.Author.Tests.{lt-ltb, le-ltb, eq-eqb, ne_eqb}
use lib.Dec.{eqb}
use lib.ListN.{length}
use Rattle.laws.proofs.Tests.{by-same}
use Rattle.laws_pieces.proofs.Pieces.{Gives}
use Rattle.laws_pieces.proofs.Filling.{filling-gives}
use Rattle.capture_output.specs.Ends.{first_line}
use Rattle.capture_steps.specs.declared.Player.{Player}
use Rattle.capture_steps.specs.Steps.{passed_by, passes, piece, first_step, last_step, last_line_of, word_lines, words_step, course_lines, course_step, step_lines, step_of}
use Rattle.capture_player.specs.Player.{stepper, giver, bytes_of, piece_of}
use Rattle.laws_capture_player.proofs.Standing.{course_text, rest_of, Stands}
use Rattle.laws_capture_player.proofs.Step.{Step, rest-going, first_step_lem, none-step, last_step_lem}
use Rattle.laws_capture_player.proofs.Due.{refused-step, passed-stands, passed-course, passed_none}
use Rattle.laws_capture_player.proofs.Given.{words_step_lem}

module _ (text : List ℕ) (room : ℕ) (p : Player) (h : 32 ≤ room) (s : Stands text p) where
  module _ (b : p.begun ≡ true) (going : p.ended ≡ false) where
    course-words : 0 < p.words → (passed_by text p).no ≡ 0
        → Step text room p (word_lines text room (passes (passed_by text p) p)) (words_step text room (passes (passed_by text p) p)).player
    course-words some z =
        let q : Player = passes (passed_by text p) p in
        let w = words_step_lem text room q h (passed-stands text p s some z) some (passed_none text p s some z) b going in
        let same : rest_of text q ≡ rest_of text p = rest-going text q b going ∙ ap (course_text p.verdict.writes) (passed-course text p s some z) ∙ sym (rest-going text p b going) in
        record { stands = w.stands; part = w.part ∙ same; last = λ e. sym same ∙ w.last e; within = w.within }

    course-step : (p.words ≡ 0 → ⊥) → Step text room p (course_lines text room p) (course_step text room p).player
    unfolding course_lines course_step
    course-step some =
        let d = passed_by text p in
        let more : 0 < p.words = omega arith in
        by-same d.no 0 (λ z. rw (eq-eqb d.no 0 z) (course-words more z))
        (λ z. rw (ne_eqb d.no 0 z) (refused-step text p s more room h b going z))

  step : Step text room p (step_lines text room p) (step_of text room p).player
  unfolding step_lines step_of
  step = rw (le-ltb room 32 h) (by_both p.begun p.ended refl refl)
    where
      goes : p.begun ≡ true → p.ended ≡ false
          → Step text room p (cond (eqb p.words 0) (last_line_of 0 p.writes p) (course_lines text room p)) (cond (eqb p.words 0) (last_step 0 p.writes p) (course_step text room p)).player
      goes b e =
          by-same p.words 0 (λ z. rw (eq-eqb p.words 0 z) (last_step_lem text room p h s b e z))
          (λ z. rw (ne_eqb p.words 0 z) (course-step b e z))

      by_both : (b e : Bool) → p.begun ≡ b → p.ended ≡ e
          → Step text room p (cond b (cond e [] (cond (eqb p.words 0) (last_line_of 0 p.writes p) (course_lines text room p))) (first_line p.verdict))
          (cond b (cond e (piece p []) (cond (eqb p.words 0) (last_step 0 p.writes p) (course_step text room p))) (first_step p)).player
      by_both true true b e = none-step text room p h s b e
      by_both true false b e = goes b e
      by_both false e b _ = first_step_lem text room p h s b

too_short : (text : List ℕ) (room : ℕ) (p : Player) → room < 32 → step_lines text room p ≡ []
unfolding step_lines
too_short text room p h = rw (lt-ltb room 32 h)

-- the player gives, step by step and piece by piece
pub steps-give : (text : List ℕ) → Gives (stepper text) (Stands text) (rest_of text) 32
steps-give text =
    record {
      part = λ room p h s. (step text room p h s).part;
      stands = λ room p h s. (step text room p h s).stands;
      last = λ room p h s. (step text room p h s).last;
      within = λ room p h s. (step text room p h s).within;
    }

pub gives : (text : List ℕ) → Gives (giver text) (Stands text) (rest_of text) 32
gives text = filling-gives (steps-give text) (too_short text) (omega arith)

-- the same of what `next_piece` answers
pub answers-give : (text : List ℕ) → Gives (record { piece = bytes_of text; next = λ room p. (piece_of text room p).player }) (Stands text) (rest_of text) 32
unfolding bytes_of piece_of
answers-give text = gives text

pub piece-count : (text : List ℕ) (room : ℕ) (p : Player) → (piece_of text room p).length ≡ length (bytes_of text room p)
unfolding piece_of
piece-count text room p = refl
