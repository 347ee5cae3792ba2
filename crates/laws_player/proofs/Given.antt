-- As many words as a buffer has room for: they are accepted, and lead on to the same. Assumes nothing.
use mathlib.Core.Bool.{true}
use mathlib.Core.List.{List, ◌++◌, append_assoc}
use mathlib.Core.Path.{◌≡◌, sym, ap, ◌∙◌}
use Prim.Native.Nat.{ℕ, ◌+◌, ◌-◌, ◌*◌, ◌^◌, ◌≤◌, ◌<◌}
use native.Mathlib.Nat.{mul-le-mul}
use native.Mathlib.Omega.{arith}
use borrow.Author.Tests.{le-ltb, lt-leb}
use Rattle.dump.specs.Checked.{verdict_of}
use Rattle.chip.proofs.InRange.{passes}
use Rattle.clocking_block.specs.Block.{after_words, words_of}
use Rattle.block_limits.specs.Limits.{accept_block, block_number}
use Rattle.calls_words.specs.Blocks.{block_played, blocked}
use Rattle.dump_words.specs.Words.{lines_of}
use Rattle.dump_progress.specs.Progress.{words_for}
use Rattle.dump_player.specs.declared.Player.{Player}
use Rattle.dump_player.specs.Player.{word_lines, words_piece}
use Rattle.laws_in_range.proofs.CallsInRange.{words-kept}
use Rattle.dump_played.proofs.Whole.{words-on}
use Rattle.clocking_block.proofs.Joined.{after-split, words-split}
use Rattle.laws_player.proofs.Standing.{words_from, words_yet, rest_of, Stands}

parts : (a b c k : ℕ) → a + b ≡ c → a * k + b * k ≡ c * k
parts a b c k e = let z : (a + b) * k ≡ a * k + b * k = omega arith in sym z ∙ ap (λ (i : ℕ). i * k) e

pub rest-begun : (text : List ℕ) (p : Player) → p.progress.begun ≡ true → rest_of text p ≡ lines_of (words_yet text p)
unfolding rest_of
rest-begun text p b = rw b

-- the words of a piece
module _ (text : List ℕ) (room : ℕ) (q : Player) (s : Stands text q) where
  abbrev n : ℕ
  n = words_for room q.progress

  -- no more words than are left, so they end as early
  block-is : blocked (words_for room q.progress) q.chip ≡ block_played (words_for room q.progress) q.chip
  unfolding blocked block_number accept_block
  block-is =
      let k = q.chip.core.clocks.cycles in
      let few : n * k ≤ q.progress.left * k = mul-le-mul {n₁ = n} {m₁ = k} {n₂ = q.progress.left} {m₂ = k} (omega arith) (omega arith) in
      let early : q.chip.core.start + n * k < 2 ^ 64 = omega (arith, few, s.early) in
      rw (passes s.range, le-ltb 65536 n (omega arith), lt-leb (2 ^ 64) _ early)

  abbrev pub given : Player
  given =
      record {
        verdict = q.verdict;
        at = q.at;
        chip = after_words n q.chip;
        progress = record { begun = q.progress.begun; frames = q.progress.frames; left = q.progress.left - n };
      }

  pub lines-is : word_lines room q ≡ lines_of (words_of n q.chip)
  unfolding word_lines
  lines-is = rw block-is

  pub given_is : (words_piece room q).player ≡ given
  unfolding words_piece
  given_is = rw block-is

  whole : n + (q.progress.left - n) ≡ q.progress.left
  whole = omega arith

  pub given-stands : Stands text given
  given-stands =
      let on = words-on n q.chip in
      let k = q.chip.core.clocks.cycles in
      let rest = q.progress.left - n in
      let sum : n * k + rest * k ≡ q.progress.left * k = parts n rest q.progress.left k whole in
      record {
        verdict = s.verdict;
        at = s.at;
        frames = s.frames;
        left = omega (arith, s.left);
        chip = sym (after-split n rest q.chip) ∙ rw whole s.chip;
        range = words-kept n s.range;
        early = rw on.cycles (omega (arith, on.start, sum, s.early));
      }

  pub given-words : words_of n q.chip ++ words_yet text given ≡ words_yet text q
  unfolding words_yet
  given-words =
      let rest = q.progress.left - n in
      let more = words_from text ((verdict_of text).frames - q.progress.frames) q.progress.frames in
      sym (append_assoc (words_of n q.chip) (words_of rest (after_words n q.chip)) more)
      ∙ ap (λ (l : List ℕ). l ++ more) (sym (words-split n rest q.chip) ∙ ap (λ (i : ℕ). words_of i q.chip) whole)
