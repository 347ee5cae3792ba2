-- A frame begins where it is due: nothing is handed out, so the same is yet to be. Assumes nothing.
use mathlib.Core.Bool.{true, false, false≢true}
use mathlib.Core.List.{List, [], ◌++◌}
use mathlib.Core.Path.{◌≡◌, refl}
use Prim.Native.Nat.{ℕ, suc, ◌+◌, ◌-◌, ◌≤◌, ◌<◌}
use native.Mathlib.Numerals.{add-one}
use native.Mathlib.Omega.{arith}
use borrow.Author.Tests.{lt-ltb, ltb-true, ltb-false}
use Rattle.laws.proofs.Tests.{by_cond, by_order, by-same}
use Rattle.text_lines.specs.Lines.{line_at}
use Rattle.dump.specs.Checked.{verdict_of}
use Rattle.chip.specs.declared.Chip.{Chip}
use Rattle.chip.proofs.InRange.{passes}
use Rattle.clocking_block.specs.Block.{after_words, words_of}
use Rattle.answers.specs.Answers.{answered}
use Rattle.dump_frames.specs.Frame.{frame_chip, frame_loaded}
use Rattle.dump_progress.specs.Progress.{frame_due}
use Rattle.dump_player.specs.declared.Player.{Player}
use Rattle.dump_player.specs.Player.{loaded_from, frame_begun, readied}
use Rattle.dump_played.specs.Whole.{frame_place, value_of, chip_before, frame_words}
use Rattle.dump_played.proofs.Whole.{frame-kept, good, soon}
use Rattle.laws_player.proofs.Verdicts.{verdict-told}
use Rattle.laws_player.proofs.Standing.{words_from, words_yet, Stands}

module _ (text : List ℕ) (p : Player) (s : Stands text p) where
  -- a frame that is due
  module _ (none : p.progress.left ≡ 0) (more : p.progress.frames < (verdict_of text).frames) where
    abbrev f : ℕ
    f = p.progress.frames

    abbrev d : Chip
    d = frame_chip (value_of text f) (chip_before text f)

    accepted-text : (verdict_of text).no ≡ 0
    accepted-text = by-same (verdict_of text).no 0 (λ e. e) (λ e. absurd (omega (arith, (verdict-told text).none e, more)))

    chip-is : p.chip ≡ chip_before text f
    unfolding after_words
    chip-is = rw none at s.chip

    loaded-is : loaded_from text p ≡ answered 0 d
    unfolding frame_loaded
    loaded-is = rw (s.at, chip-is, passes (rw chip-is at s.range), good text accepted-text f more)

    abbrev begun_at : Player
    begun_at =
        record {
          verdict = p.verdict;
          at = (line_at text p.at).next;
          chip = d;
          progress = record { begun = p.progress.begun; frames = f + 1; left = p.verdict.words };
        }

    begun-is : frame_begun text p ≡ begun_at
    unfolding frame_begun
    begun-is = rw loaded-is

    begun-stands : Stands text begun_at
    unfolding frame_place chip_before
    begun-stands =
        record {
          verdict = s.verdict;
          at = rw (add-one, s.at);
          frames = omega arith;
          left = rw s.verdict (verdict-told text).words;
          chip = rw (add-one, s.verdict);
          range = frame-kept (value_of text f) (rw chip-is at s.range);
          early = rw s.verdict (soon text accepted-text f more);
        }

    begun-words : words_yet text begun_at ≡ words_yet text p
    unfolding words_yet words_of words_from frame_words
    begun-words =
        let z : (verdict_of text).frames - f ≡ suc ((verdict_of text).frames - (f + 1)) = omega arith in
        rw (none, z, s.verdict, add-one)

-- a player that is ready: it has the same words yet to give, and has some left unless there are none
pub record Ready (text : List ℕ) (p q : Player) : Type 0 where
  pub stands : Stands text q
  pub begun : q.progress.begun ≡ p.progress.begun
  pub yet : words_yet text q ≡ words_yet text p
  pub done : q.progress.left ≡ 0 → words_yet text p ≡ []

module _ (text : List ℕ) (p : Player) (s : Stands text p) where
  ready-same : frame_due p.verdict.frames p.progress ≡ false → Ready text p p
  unfolding frame_due words_yet words_of words_from
  ready-same due = record { stands = s; begun = refl; yet = refl; done = ended }
    where
      ended : p.progress.left ≡ 0 → words_of p.progress.left p.chip ++ words_from text ((verdict_of text).frames - p.progress.frames) p.progress.frames ≡ []
      ended e =
          let all : (verdict_of text).frames ≤ p.progress.frames = ltb-false _ _ (rw (e, s.verdict) at due) in
          let z : (verdict_of text).frames - p.progress.frames ≡ 0 = omega (arith, all) in
          rw (e, z)

  ready-begun : frame_due p.verdict.frames p.progress ≡ true → Ready text p (frame_begun text p)
  unfolding frame_due
  ready-begun due =
      by_order 1 p.progress.left (λ h. absurd (false≢true (rw (lt-ltb 0 p.progress.left h) at due)))
      (λ h.
      let none : p.progress.left ≡ 0 = omega arith in
      let more : p.progress.frames < (verdict_of text).frames = ltb-true _ _ (rw (none, s.verdict) at due) in
      let words : 0 < p.verdict.words = rw s.verdict ((verdict-told text).some (accepted-text text p s none more)) in
      rw (begun-is text p s none more)
      (record {
        stands = begun-stands text p s none more;
        begun = refl;
        yet = begun-words text p s none more;
        done = λ e. absurd (omega (arith, words, e));
      }))

  pub ready : Ready text p (readied text p)
  unfolding readied
  ready = by_cond (Ready text p) (frame_due p.verdict.frames p.progress) (frame_begun text p) p ready-begun ready-same
