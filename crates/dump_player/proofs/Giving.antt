-- What a piece hands out: laws for the returns of `next_piece` and of what it calls. Assumes nothing.
use mathlib.Core.Bool.{Bool, true, false, cond}
use mathlib.Core.Path.{◌≡◌, refl, sym, ap, ◌∙◌}
use mathlib.Core.List.{List}
use Prim.Native.Nat.{ℕ, ◌+◌, ◌*◌, ◌≤◌, ◌<◌}
use native.Mathlib.Omega.{arith}
use borrow.Author.Tests.{le-leb, lt-ltb, ltb-true, eq-eqb, ne_eqb}
use lib.Dec.{ltb}
use lib.ListN.{length}
use Rattle.laws.proofs.Tests.{on-true, on-false, on-lt, on-ge}
use Rattle.text_lines.specs.Bytes.{bytes}
use Rattle.text_lines.specs.Lines.{line_at, value_at}
use Rattle.text_lines.specs.declared.Line.{Line}
use Rattle.text_put.specs.Text.{overlaid, laid, place_after}
use Rattle.text_put.proofs.Laying.{laid-over, place-over, over_none}
use Rattle.clocking_block.specs.Block.{words_of}
use Rattle.clocking_block.proofs.Joined.{words_long}
use Rattle.answers.specs.declared.Answered.{Answered}
use Rattle.answers.specs.declared.Applied.{Applied}
use Rattle.answers.proofs.Laws.{of_some}
use Rattle.answers.specs.declared.Blocked.{Blocked}
use Rattle.calls_words.specs.Blocks.{blocked, block_buffer}
use Rattle.calls_words.proofs.Accepted.{buffer-words}
use Rattle.dump_frames.specs.Frame.{frame_reported}
use Rattle.dump_frames.proofs.Loading.{reported-is}
use Rattle.dump_output.specs.Printed.{first_line}
use Rattle.dump_words.specs.Words.{lines_of, words_laid, words_place}
use Rattle.dump_progress.specs.declared.Progress.{Progress}
use Rattle.dump_progress.specs.Progress.{first_line_given, frame_due, frame_begins, words_for, words_given}
use Rattle.dump_player.specs.declared.Player.{Player}
use Rattle.dump_player.specs.declared.Piece.{Piece}
use Rattle.dump_player.specs.Player.{first_piece, loaded_from, frame_begun, readied, nothing, word_lines, words_piece, bytes_of, piece_of}

-- the first line
pub first-given : (p : Player) (out : List ℕ) → 32 ≤ length out → length (first_line p.verdict) ≤ 32
    → {g : Progress} → g ≡ first_line_given p.progress → {n : ℕ} → n ≡ place_after out 0 (first_line p.verdict) → {after : List ℕ} → after ≡ laid out 0 (first_line p.verdict)
    → (record { player = record { verdict = p.verdict; at = p.at; chip = p.chip; progress = g }; length = n } ≡ first_piece p)
    × (after ≡ overlaid out 0 (first_line p.verdict))
unfolding first_piece
first-given p out room few {g} o {n} e f =
    let fits : 0 + length (first_line p.verdict) ≤ length out = omega (arith, few) in
    let z : 0 + length (first_line p.verdict) ≡ length (first_line p.verdict) = omega arith in
    (rw (o, e ∙ place-over out 0 (first_line p.verdict) fits ∙ z), f ∙ laid-over out 0 (first_line p.verdict) fits)

-- the words left, as many as there is room for
module _ (p : Player) (out words : List ℕ) (n : length words ≡ words_for (length out) p.progress) {b : Blocked} (e : b ≡ blocked (length words) p.chip) where
  same : b ≡ blocked (words_for (length out) p.progress) p.chip
  same = rw n at e

  pub lines_none : (b.answer.no ≡ 0 → ⊥) → (nothing p ≡ words_piece (length out) p) × (out ≡ overlaid out 0 (word_lines (length out) p))
  unfolding words_piece word_lines
  lines_none z =
      let q = ne_eqb (blocked (words_for (length out) p.progress) p.chip).answer.no 0 (λ y. z (rw same y)) in
      (rw q, rw q (over_none out 0))

  pub lines-some : b.answer.no ≡ 0 → {after : List ℕ} → after ≡ block_buffer words p.chip → {k : ℕ} → k ≡ words_place out 0 after
      → {out' : List ℕ} → out' ≡ words_laid out 0 after → {g : Progress} → g ≡ words_given (length words) p.progress
      → (record {
        player = record { verdict = p.verdict; at = p.at; chip = b.chip; progress = g };
        length = k;
      }
      ≡ words_piece (length out) p)
      × (out' ≡ overlaid out 0 (word_lines (length out) p))
  unfolding words_piece word_lines words_place words_laid
  lines-some z {after} w {k} f g h =
      let m = words_for (length out) p.progress in
      let q = eq-eqb (blocked m p.chip).answer.no 0 (rw same at z) in
      let is : after ≡ words_of m p.chip = w ∙ buffer-words words p.chip (rw e at z) ∙ ap (λ (i : ℕ). words_of i p.chip) n in
      let long : length after ≡ m = ap length is ∙ words_long m p.chip in
      let room = le-leb (0 + 6 * length after) (length out) (omega (arith, long)) in
      let o : 0 + length (lines_of after) ≡ length (lines_of after) = omega arith in
      let k-is : k ≡ length (lines_of (words_of m p.chip)) = (rw room at f) ∙ o ∙ ap (λ (l : List ℕ). length (lines_of l)) is in
      (rw (q, k-is, same, h, n), rw q ((rw (room, is) at g)))

-- a frame begins: what its load reports has the number and the chip of the load
module _ (text : List ℕ) (p : Player) {l : Applied} (e : l ≡ frame_reported (value_at (bytes "regs=") text p.at) p.chip) where
  load_is : of_some l ≡ loaded_from text p
  load_is = rw e (sym (reported-is _ p.chip))

  number : l.answer.no ≡ (loaded_from text p).no
  number = ap (λ (a : Answered). a.no) load_is

  chip : l.chip ≡ (loaded_from text p).chip
  chip = ap (λ (a : Answered). a.chip) load_is

  pub frame-not : (l.answer.no ≡ 0 → ⊥) → p ≡ frame_begun text p
  unfolding frame_begun
  frame-not z = rw (ne_eqb (loaded_from text p).no 0 (λ y. z (number ∙ y)))

  pub frame-begins : l.answer.no ≡ 0 → {x : Line} → x ≡ line_at text p.at → {g : Progress} → g ≡ frame_begins p.verdict.words p.progress
      → record { verdict = p.verdict; at = x.next; chip = l.chip; progress = g } ≡ frame_begun text p
  unfolding frame_begun
  frame-begins z f h = rw (eq-eqb (loaded_from text p).no 0 (sym number ∙ z), chip, f, h)

not_left : (t s : Bool) → cond t false s ≡ true → s ≡ true
not_left true s e = let z : false ≡ true = e in cc
not_left false s e = e

module _ (text : List ℕ) (p : Player) {due : Bool} (e : due ≡ frame_due p.verdict.frames p.progress) where
  pub next-frame : due ≡ true → {q : Player} → q ≡ frame_begun text p → q ≡ readied text p
  unfolding readied
  next-frame d f = on-true _ _ _ _ (sym e ∙ d) f

  pub no-frame : due ≡ false → p ≡ readied text p
  unfolding readied
  no-frame d = on-false _ _ _ _ (sym e ∙ d) refl

  -- a frame that is due is not the last that a number holds
  pub due-few : p.verdict.frames < 65536 → due ≡ true → p.progress.frames < 65535
  unfolding frame_due
  due-few h d = omega (arith, ltb-true p.progress.frames p.verdict.frames (not_left (ltb 0 p.progress.left) _ (sym e ∙ d)))

-- the piece
module _ (text out : List ℕ) (p : Player) where
  abbrev Given : Piece → List ℕ → Type 0
  Given x after = (x ≡ piece_of text (length out) p) × (after ≡ overlaid out 0 (bytes_of text (length out) p))

  pub too_short : length out < 32 → Given (nothing p) out
  unfolding piece_of bytes_of
  too_short h = (on-lt _ _ _ _ _ h refl, rw (lt-ltb (length out) 32 h) (over_none out 0))

  module _ (room : 32 ≤ length out) where
    pub words-piece : p.progress.begun ≡ true → {q : Player} → q ≡ readied text p → {x : Piece} → x ≡ words_piece (length out) q
        → {after : List ℕ} → after ≡ overlaid out 0 (word_lines (length out) q) → Given x after
    unfolding piece_of bytes_of
    words-piece b e f g = (
      on-ge _ _ _ _ _ room (on-true p.progress.begun _ _ _ b (rw e at f)),
      (rw e at g) ∙ ap (λ (l : List ℕ). overlaid out 0 l) (on-ge _ _ _ _ _ room (on-true p.progress.begun _ _ _ b refl)),
    )

    pub first_piece_lem : p.progress.begun ≡ false → {x : Piece} → x ≡ first_piece p → {after : List ℕ} → after ≡ overlaid out 0 (first_line p.verdict) → Given x after
    unfolding piece_of bytes_of
    first_piece_lem b f g = (
      on-ge _ _ _ _ _ room (on-false p.progress.begun _ _ _ b f),
      g ∙ ap (λ (l : List ℕ). overlaid out 0 l) (on-ge _ _ _ _ _ room (on-false p.progress.begun _ _ _ b refl)),
    )
