-- The length that a step answers is that of its lines, wherever the player stands. Assumes nothing.
use mathlib.Core.Bool.{Bool, true, false, cond}
use mathlib.Core.List.{List, []}
use mathlib.Core.Path.{◌≡◌, refl, sym, ap}
use Prim.Native.Nat.{ℕ}
use lib.Dec.{eqb, ltb}
use lib.ListN.{length}
use Rattle.laws.proofs.Tests.{by_cond}
use Rattle.capture_steps.specs.declared.Player.{Player}
use Rattle.capture_steps.specs.declared.Piece.{Piece}
use Rattle.capture_steps.specs.Steps.{passed_by, passes, rendered, word_lines, words_step, course_lines, course_step, step_lines, step_of}

abbrev Same : Piece → List ℕ → Type 0
Same x lines = x.length ≡ length lines

by_both : {A B : Type 0} (P : A → B → Type 0) (t : Bool) {a b : A} {x y : B} → P a x → P b y → P (cond t a b) (cond t x y)
by_both P true h k = h
by_both P false h k = k

no_words : (text : List ℕ) (room : ℕ) (p : Player) → eqb (rendered text room p).answer.no 0 ≡ false → word_lines text room p ≡ []
unfolding word_lines
no_words text room p e = rw e

words_count : (text : List ℕ) (room : ℕ) (p : Player) → Same (words_step text room p) (word_lines text room p)
unfolding words_step
words_count text room p =
    by_cond (λ (x : Piece). Same x (word_lines text room p)) (eqb (rendered text room p).answer.no 0) _ _ (λ _. refl)
    (λ e. ap length (sym (no_words text room p e)))

course-count : (text : List ℕ) (room : ℕ) (p : Player) → Same (course_step text room p) (course_lines text room p)
unfolding course_step course_lines
course-count text room p = by_both Same (eqb (passed_by text p).no 0) (words_count text room (passes (passed_by text p) p)) refl

pub step_count : (text : List ℕ) (room : ℕ) (p : Player) → (step_of text room p).length ≡ length (step_lines text room p)
unfolding step_of step_lines
step_count text room p =
    by_both Same (ltb room 32) refl
    (by_both Same p.begun (by_both Same p.ended refl (by_both Same (eqb p.words 0) refl (course-count text room p))) refl)
