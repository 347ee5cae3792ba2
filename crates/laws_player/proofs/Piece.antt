-- A piece is the next part of what is yet to be handed out. Assumes nothing.
use mathlib.Core.Bool.{Bool, true, false, cond}
use mathlib.Core.List.{List, [], ◌++◌}
use mathlib.Core.Path.{◌≡◌, refl, sym, ap, ◌∙◌}
use Prim.Native.Nat.{ℕ, ◌≤◌}
use native.Mathlib.Omega.{arith}
use borrow.Author.Tests.{le-ltb}
use lib.Dec.{ltb, eqb}
use lib.ListN.{length}
use Rattle.laws.proofs.Tests.{by_cond}
use Rattle.clocking_block.specs.Block.{words_of}
use Rattle.dump_output.specs.Printed.{first_line}
use Rattle.dump_output.proofs.Saying.{first-few, first_some}
use Rattle.dump_words.specs.Words.{lines_of}
use Rattle.dump_progress.specs.Progress.{words_for}
use Rattle.dump_player.specs.declared.Player.{Player}
use Rattle.dump_player.specs.declared.Piece.{Piece}
use Rattle.dump_player.specs.Player.{first_piece, readied, rendered, word_lines, words_piece, bytes_of, piece_of}
use Rattle.laws_player.proofs.Verdicts.{Told, verdict-told}
use Rattle.dump_words.proofs.Lining.{lines_join}
use Rattle.laws_player.proofs.Words.{lines-few, no_lines}
use Rattle.laws_player.proofs.Standing.{words_yet, rest_of, Stands}
use Rattle.laws_player.proofs.Ready.{ready}
use Rattle.laws_player.proofs.Given.{rest-begun, given, lines-is, given_is, given-stands, given-words}

-- a piece is the next part of the rest, empty only where nothing is left, and fits its buffer
record Step (text : List ℕ) (room : ℕ) (p : Player) (piece : List ℕ) (next : Player) : Type 0 where
  stands : Stands text next
  part : piece ++ rest_of text next ≡ rest_of text p
  last : piece ≡ [] → rest_of text p ≡ []
  within : length piece ≤ room

module _ (text : List ℕ) (room : ℕ) (p : Player) (h : 32 ≤ room) (s : Stands text p) where
  first_step_lem : p.progress.begun ≡ false → Step text room p (first_line p.verdict) (first_piece p).player
  unfolding rest_of first_piece words_yet
  first_step_lem b =
      let t : Told p.verdict = rw s.verdict (verdict-told text) in
      record {
        stands = record { verdict = s.verdict; at = s.at; frames = s.frames; left = s.left; chip = s.chip; range = s.range; early = s.early };
        part = rw b;
        last = λ e. absurd (first_some p.verdict e);
        within = omega (arith, first-few p.verdict t.no (omega (arith, t.line)) (omega (arith, t.words)) (omega (arith, t.frames)), h);
      }

  words_step_lem : p.progress.begun ≡ true → Step text room p (word_lines room (readied text p)) (words_piece room (readied text p)).player
  unfolding lines_of
  words_step_lem b =
      let q = readied text p in
      let r = ready text p s in
      let n = words_for room q.progress in
      let e = lines-is text room q r.stands in
      let next : Player = given text room q r.stands in
      let few = lines-few n r.stands.range in
      rw (given_is text room q r.stands)
      (record {
        stands = given-stands text room q r.stands;
        part = ap (λ (l : List ℕ). l ++ rest_of text next) e
            ∙ ap (λ (l : List ℕ). lines_of (words_of n q.chip) ++ l) (rest-begun text next (r.begun ∙ b))
            ∙ sym (lines_join (words_of n q.chip) (words_yet text next))
            ∙ ap lines_of (given-words text room q r.stands ∙ r.yet)
            ∙ sym (rest-begun text p b);
        last = λ z.
            let none : n ≡ 0 = no_lines n q.chip (sym e ∙ z) in
            rest-begun text p b ∙ ap lines_of (r.done (omega (arith, none, h)));
        within = rw e (omega (arith, few, h));
      })

  step : Step text room p (bytes_of text room p) (piece_of text room p).player
  unfolding bytes_of piece_of
  step = rw (le-ltb room 32 h) (by-begun p.progress.begun refl)
    where
      by-begun : (b : Bool) → p.progress.begun ≡ b
          → Step text room p (cond b (word_lines room (readied text p)) (first_line p.verdict)) (cond b (words_piece room (readied text p)) (first_piece p)).player
      by-begun true b = words_step_lem b
      by-begun false b = first_step_lem b

  pub piece-stands : Stands text (piece_of text room p).player
  piece-stands = step.stands

  pub rest-piece : bytes_of text room p ++ rest_of text (piece_of text room p).player ≡ rest_of text p
  rest-piece = step.part

  pub piece-empty : bytes_of text room p ≡ [] → rest_of text p ≡ []
  piece-empty = step.last

  pub piece-fits : length (bytes_of text room p) ≤ room
  piece-fits = step.within

no_words : (room : ℕ) (q : Player) → eqb (rendered room q).answer.no 0 ≡ false → word_lines room q ≡ []
unfolding word_lines
no_words room q e = rw e

-- the length that is answered is the piece's, of any player
words-length : (room : ℕ) (q : Player) → (words_piece room q).length ≡ length (word_lines room q)
unfolding words_piece
words-length room q =
    by_cond (λ (x : Piece). x.length ≡ length (word_lines room q)) (eqb (rendered room q).answer.no 0) _ _ (λ _. refl) none
  where
    none : eqb (rendered room q).answer.no 0 ≡ false → 0 ≡ length (word_lines room q)
    none e = ap length (sym (no_words room q e))

by_both : {A B : Type 0} (P : A → B → Type 0) (t : Bool) {a b : A} {x y : B} → P a x → P b y → P (cond t a b) (cond t x y)
by_both P true h k = h
by_both P false h k = k

pub piece-length : (text : List ℕ) (room : ℕ) (p : Player) → (piece_of text room p).length ≡ length (bytes_of text room p)
unfolding bytes_of piece_of first_piece
piece-length text room p =
    let same : Piece → List ℕ → Type 0 = λ x l. x.length ≡ length l in
    by_both same (ltb room 32) refl (by_both same p.progress.begun (words-length room (readied text p)) refl)
