-- What a step hands out: laws for the returns of `step` and of what it calls. Assumes nothing.
use mathlib.Core.Bool.{true, false, not, cond}
use mathlib.Core.Path.{◌≡◌, refl, ap, ◌∙◌}
use mathlib.Core.List.{List, []}
use Prim.Native.Nat.{ℕ, ◌+◌, ◌*◌, ◌≤◌, ◌<◌}
use native.Mathlib.Omega.{arith}
use borrow.Author.Tests.{not-true, not-false, le-leb, eq-eqb, ne_eqb}
use lib.Dec.{ltb, eqb}
use lib.ListN.{length}
use Rattle.laws.proofs.Tests.{on-true, on-false, on-lt, on-ge, on-eq, on-ne}
use Rattle.text_put.specs.Text.{overlaid, laid, place_after}
use Rattle.text_put.proofs.Laying.{laid-over, place-over, over_none}
use Rattle.clocking_block.specs.Block.{words_of}
use Rattle.clocking_block.proofs.Joined.{words_long}
use Rattle.answers.specs.declared.Blocked.{Blocked}
use Rattle.calls_words.specs.Blocks.{blocked, block_buffer}
use Rattle.calls_words.proofs.Accepted.{buffer-words}
use Rattle.dump_words.specs.Words.{lines_of, words_laid, words_place}
use Rattle.capture_passing.proofs.Free.{free-few}
use Rattle.capture_passing.specs.declared.Passing.{Passing}
use Rattle.capture_output.specs.Ends.{first_line}
use Rattle.capture_steps.specs.declared.Player.{Player}
use Rattle.capture_steps.specs.declared.Piece.{Piece}
use Rattle.capture_steps.specs.Steps.{passes, renders, piece, first_step, last_step, last_line_of, passed_by, words_for, word_lines, words_step, course_lines, course_step, step_lines, step_of}

-- a line that has room is put
pub line-given : (p : Player) (out line : List ℕ) → 32 ≤ length out → length line ≤ 32 → {n : ℕ} → n ≡ place_after out 0 line
    → {after : List ℕ} → after ≡ laid out 0 line → (record { player = p; length = n } ≡ piece p line) × (after ≡ overlaid out 0 line)
line-given p out line room few e f =
    let fits : 0 + length line ≤ length out = omega arith in
    let z : 0 + length line ≡ length line = omega arith in
    (rw (e ∙ place-over out 0 line fits ∙ z), f ∙ laid-over out 0 line fits)

-- no more words than are left
pub words-few : (text : List ℕ) (room : ℕ) (p : Player) → words_for text room p ≤ p.words
words-few text room p = omega (arith, free-few text p.at p.chip.core.start p.chip.core.clocks.cycles p.words p.writes)

-- the words
module _ (text : List ℕ) (p : Player) (out words : List ℕ) (n : length words ≡ words_for text (length out) p) {b : Blocked} (e : b ≡ blocked (length words) p.chip) where
  abbrev m : ℕ
  m = words_for text (length out) p

  same : b ≡ blocked (words_for text (length out) p) p.chip
  same = rw n at e

  pub lines_none : (b.answer.no ≡ 0 → ⊥) → (piece p [] ≡ words_step text (length out) p) × (out ≡ overlaid out 0 (word_lines text (length out) p))
  unfolding words_step word_lines
  lines_none z =
      let q = ne_eqb (blocked m p.chip).answer.no 0 (λ y. z (rw same y)) in
      (rw q, rw q (over_none out 0))

  pub lines-some : b.answer.no ≡ 0 → {after : List ℕ} → after ≡ block_buffer words p.chip → {k : ℕ} → k ≡ words_place out 0 after
      → {out' : List ℕ} → out' ≡ words_laid out 0 after
      → (record { player = renders (length words) b.chip p; length = k } ≡ words_step text (length out) p) × (out' ≡ overlaid out 0 (word_lines text (length out) p))
  unfolding words_step word_lines words_place words_laid
  lines-some z {after} w {k} f g =
      let q = eq-eqb (blocked m p.chip).answer.no 0 (rw same at z) in
      let is : after ≡ words_of m p.chip = w ∙ buffer-words words p.chip (rw e at z) ∙ ap (λ (i : ℕ). words_of i p.chip) n in
      let long : length after ≡ m = ap length is ∙ words_long m p.chip in
      let room = le-leb (0 + 6 * length after) (length out) (omega (arith, long)) in
      let o : 0 + length (lines_of after) ≡ length (lines_of after) = omega arith in
      let k-is : k ≡ length (lines_of (words_of m p.chip)) = (rw room at f) ∙ o ∙ ap (λ (l : List ℕ). length (lines_of l)) is in
      (rw (q, k-is, same, n), rw q ((rw (room, is) at g)))

-- a step's answer and the buffer, from the step that is taken
abbrev pub Given : List ℕ → Piece → List ℕ → Piece → List ℕ → Type 0
Given out x after step lines = (x ≡ step) × (after ≡ overlaid out 0 lines)

-- what is due is passed first
module _ (text out : List ℕ) (p : Player) {d : Passing} (e : d ≡ passed_by text p) where
  pub course-refused : (d.no ≡ 0 → ⊥) → {x : Piece} {after : List ℕ} → Given out x after (last_step d.no d.writes p) (last_line_of d.no d.writes p)
      → Given out x after (course_step text (length out) p) (course_lines text (length out) p)
  unfolding course_step course_lines
  course-refused z (a, b) = let q = ne_eqb d.no 0 z in (rw (← e, q) a, rw (← e, q) b)

  pub course-words : d.no ≡ 0 → {x : Piece} {after : List ℕ} → Given out x after (words_step text (length out) (passes d p)) (word_lines text (length out) (passes d p))
      → Given out x after (course_step text (length out) p) (course_lines text (length out) p)
  unfolding course_step course_lines
  course-words z (a, b) = let q = eq-eqb d.no 0 z in (rw (← e, q) a, rw (← e, q) b)

pub given-as : (out : List ℕ) {s s' : Piece} {l l' : List ℕ} → s ≡ s' → l ≡ l' → {x : Piece} {after : List ℕ} → Given out x after s l → Given out x after s' l'
given-as out e f (a, b) = (a ∙ e, b ∙ ap (λ (k : List ℕ). overlaid out 0 k) f)

-- the step that is taken: a buffer too short, all handed out, the last line, the course, the first line
module _ {A : Type 0} (room : ℕ) (p : Player) (short done last going first : A) where
  abbrev taken : A
  taken = cond (ltb room 32) short (cond p.begun (cond p.ended done (cond (eqb p.words 0) last going)) first)

  is-first : 32 ≤ room → p.begun ≡ false → first ≡ taken
  is-first h b = on-ge _ _ _ _ _ h (on-false p.begun _ _ _ b refl)

  is-done : 32 ≤ room → p.begun ≡ true → p.ended ≡ true → done ≡ taken
  is-done h b e = on-ge _ _ _ _ _ h (on-true p.begun _ _ _ b (on-true p.ended _ _ _ e refl))

  is_last : 32 ≤ room → p.begun ≡ true → p.ended ≡ false → p.words ≡ 0 → last ≡ taken
  is_last h b e z = on-ge _ _ _ _ _ h (on-true p.begun _ _ _ b (on-false p.ended _ _ _ e (on-eq _ _ _ _ _ z refl)))

  is-going : 32 ≤ room → p.begun ≡ true → p.ended ≡ false → (p.words ≡ 0 → ⊥) → going ≡ taken
  is-going h b e z = on-ge _ _ _ _ _ h (on-true p.begun _ _ _ b (on-false p.ended _ _ _ e (on-ne _ _ _ _ _ z refl)))

module _ (text out : List ℕ) (p : Player) where
  abbrev Stepped : Piece → List ℕ → Type 0
  Stepped x after = Given out x after (step_of text (length out) p) (step_lines text (length out) p)

  pub too_short : length out < 32 → Stepped (piece p []) out
  unfolding step_of step_lines
  too_short h = given-as out (on-lt _ _ _ _ _ h refl) (on-lt _ _ _ _ _ h refl) (refl, over_none out 0)

  module _ (room : 32 ≤ length out) where
    pub first_step_lem : not p.begun ≡ true → {x : Piece} {after : List ℕ} → Given out x after (first_step p) (first_line p.verdict) → Stepped x after
    unfolding step_of step_lines
    first_step_lem b = let f = not-true p.begun b in given-as out (is-first _ p _ _ _ _ _ room f) (is-first _ p _ _ _ _ _ room f)

    module _ (begun : not p.begun ≡ false) where
      b : p.begun ≡ true
      b = not-false p.begun begun

      pub all-given : p.ended ≡ true → Stepped (piece p []) out
      unfolding step_of step_lines
      all-given e = given-as out (is-done _ p _ _ _ _ _ room b e) (is-done _ p _ _ _ _ _ room b e) (refl, over_none out 0)

      module _ (going : p.ended ≡ false) where
        pub last_step_lem : p.words ≡ 0 → {x : Piece} {after : List ℕ} → Given out x after (last_step 0 p.writes p) (last_line_of 0 p.writes p) → Stepped x after
        unfolding step_of step_lines
        last_step_lem z = given-as out (is_last _ p _ _ _ _ _ room b going z) (is_last _ p _ _ _ _ _ room b going z)

        pub course-step : (p.words ≡ 0 → ⊥) → {x : Piece} {after : List ℕ}
            → Given out x after (course_step text (length out) p) (course_lines text (length out) p) → Stepped x after
        unfolding step_of step_lines
        course-step z = given-as out (is-going _ p _ _ _ _ _ room b going z) (is-going _ p _ _ _ _ _ room b going z)
