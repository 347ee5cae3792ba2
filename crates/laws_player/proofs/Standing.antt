-- Where a player stands, and what it has yet to hand out: the first line if it is not begun, the words left and those of the frames to
-- come. Assumes nothing.
use mathlib.Core.Bool.{cond}
use mathlib.Core.List.{List, [], ◌++◌, append_assoc, append-nil}
use mathlib.Core.Path.{◌≡◌, refl, sym, ap, ◌∙◌}
use Prim.Native.Nat.{ℕ, zero, suc, ◌+◌, ◌-◌, ◌*◌, ◌^◌, ◌≤◌, ◌<◌}
use native.Mathlib.Omega.{arith}
use borrow.Author.Tests.{eq-eqb, ne_eqb}
use Rattle.laws.proofs.Tests.{by-same}
use Rattle.dump.specs.Checked.{verdict_of}
use Rattle.chip.proofs.InRange.{InRange}
use Rattle.clocking_block.specs.Block.{after_words, words_of}
use Rattle.output_lines.specs.Lines.{refusal_text}
use Rattle.dump_output.specs.Printed.{first_line}
use Rattle.dump_words.specs.Words.{lines_of}
use Rattle.dump_player.specs.declared.Player.{Player}
use Rattle.dump_player.specs.Player.{start_of}
use Rattle.laws_in_range.proofs.CallsInRange.{with-clocks-kept}
use Rattle.dump_played.specs.Whole.{frame_place, chip_before, frame_words, words_in, printed}
use Rattle.dump_played.proofs.Whole.{made-start}
use Rattle.laws_player.proofs.Verdicts.{verdict-told}

-- the words of k frames from frame f on
unfoldable pub words_from : List ℕ → ℕ → ℕ → List ℕ
words_from text zero f = []
words_from text (suc k) f = frame_words text f ++ words_from text k (suc f)

-- the words that are yet to be handed out, and all that is
unfoldable pub words_yet : List ℕ → Player → List ℕ
words_yet text p =
    words_of p.progress.left p.chip ++ words_from text ((verdict_of text).frames - p.progress.frames) p.progress.frames

unfoldable pub rest_of : List ℕ → Player → List ℕ
rest_of text p = cond p.progress.begun [] (first_line p.verdict) ++ lines_of (words_yet text p)

-- what holds of a player from its start on
pub record Stands (text : List ℕ) (p : Player) : Type 0 where
  pub verdict : p.verdict ≡ verdict_of text
  pub at : p.at ≡ frame_place text p.progress.frames
  pub frames : p.progress.frames ≤ (verdict_of text).frames
  pub left : p.progress.left ≤ 4096
  -- the words left lead to the chip before the next frame
  pub chip : after_words p.progress.left p.chip ≡ chip_before text p.progress.frames
  pub range : InRange p.chip
  -- and end before cycle 2^64
  pub early : p.chip.core.start + p.progress.left * p.chip.core.clocks.cycles < 2 ^ 64

module _ (text : List ℕ) where
  -- at the start
  pub start-stands : Stands text (start_of text)
  unfolding start_of frame_place chip_before after_words
  start-stands =
      let v = verdict_of text in
      let zero-start = made-start v.master v.rate in
      record {
        verdict = refl;
        at = refl;
        frames = omega arith;
        left = omega arith;
        chip = refl;
        range = with-clocks-kept v.master v.rate;
        early = rw zero-start (omega arith);
      }

  frames-join : (k f : ℕ) → words_in text f ++ words_from text k f ≡ words_in text (f + k)
  unfolding words_from words_in
  frames-join zero f = let z : f + 0 ≡ f = omega arith in rw z (append-nil (words_in text f))
  frames-join (suc k) f =
      let z : f + suc k ≡ suc f + k = omega arith in
      rw z (sym (append_assoc (words_in text f) (frame_words text f) (words_from text k (suc f))) ∙ frames-join k (suc f))

  words-start : words_yet text (start_of text) ≡ words_in text (verdict_of text).frames
  unfolding words_yet start_of words_of words_in
  words-start =
      let frames = (verdict_of text).frames in
      let y : frames - 0 ≡ frames = omega arith in
      let z : 0 + frames ≡ frames = omega arith in
      rw y (rw z at (frames-join frames 0))

  pub first_then : first_line (verdict_of text) ++ lines_of (words_in text (verdict_of text).frames) ≡ printed text
  unfolding first_line printed lines_of words_in
  first_then =
      let v = verdict_of text in
      by-same v.no 0 (λ e. rw (eq-eqb v.no 0 e))
      (λ e. rw (ne_eqb v.no 0 e, (verdict-told text).none e) (append-nil (refusal_text v.no v.line)))

  pub rest-start : rest_of text (start_of text) ≡ printed text
  unfolding rest_of start_of
  rest-start = ap (λ (l : List ℕ). first_line (verdict_of text) ++ lines_of l) words-start ∙ first_then
