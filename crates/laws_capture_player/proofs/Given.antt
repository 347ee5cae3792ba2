-- Words that need nothing passed between them, as many as a buffer has room for: they are a block, and lead on to the same. Assumes nothing.
use mathlib.Core.Bool.{true, false}
use mathlib.Core.List.{List, ◌++◌, append_assoc}
use mathlib.Core.Path.{◌≡◌, sym, ap, ◌∙◌}
use Prim.Native.Nat.{ℕ, ◌+◌, ◌-◌, ◌*◌, ◌^◌, ◌≤◌, ◌<◌}
use native.Mathlib.Nat.{mul-le-mul}
use native.Mathlib.Omega.{arith}
use borrow.Author.Tests.{le-ltb, lt-leb}
use lib.ListN.{length}
use Rattle.chip.proofs.InRange.{passes}
use Rattle.clocking_word.specs.Word.{end_of}
use Rattle.clocking_block.specs.Block.{after_words, words_of}
use Rattle.block_limits.specs.Limits.{accept_block, block_number}
use Rattle.calls_words.specs.Blocks.{block_played, blocked}
use Rattle.laws_in_range.proofs.CallsInRange.{words-kept}
use Rattle.dump_words.specs.Words.{lines_of}
use Rattle.dump_words.proofs.Lining.{lines_join}
use Rattle.dump_played.proofs.Whole.{words-on}
use Rattle.capture_passing.proofs.Free.{free-few, free-none, some-free}
use Rattle.capture_course.specs.Course.{course}
use Rattle.capture_course.specs.Claims.{NoneBy, followed_by}
use Rattle.capture_course.proofs.Courses.{blocks}
use Rattle.capture_output.specs.Ends.{last_line}
use Rattle.capture_steps.specs.declared.Player.{Player}
use Rattle.capture_steps.specs.Steps.{renders, words_for, word_lines, words_step}
use Rattle.laws_player.proofs.Words.{lines-few, no_lines}
use Rattle.laws_capture_player.proofs.Words.{cycles-some}
use Rattle.laws_capture_player.proofs.Standing.{writes_yet, course_yet, course_text, Stands}
use Rattle.laws_capture_player.proofs.Step.{Step, rest-going}

-- words before which nothing is due
module _ (text : List ℕ) (room : ℕ) (q : Player) (h : 32 ≤ room) (s : Stands text q) (some : 0 < q.words)
    (none : NoneBy (end_of q.chip.core) (writes_yet text q)) where
  abbrev n : ℕ
  n = words_for text room q

  abbrev k : ℕ
  k = q.chip.core.clocks.cycles

  n-some : 0 < words_for text room q
  n-some =
      let free = some-free text q.at q.chip.core.start k q.words q.writes (cycles-some s.range) some none in
      omega (arith, free)

  n-few : words_for text room q ≤ q.words
  n-few = omega (arith, free-few text q.at q.chip.core.start k q.words q.writes)

  -- no more words than are left, so they end as early
  block-is : blocked (words_for text room q) q.chip ≡ block_played (words_for text room q) q.chip
  unfolding blocked block_number accept_block
  block-is =
      let few : n * k ≤ q.words * k = mul-le-mul {n₁ = n} {m₁ = k} {n₂ = q.words} {m₂ = k} n-few (omega arith) in
      let early : q.chip.core.start + n * k < 2 ^ 64 = omega (arith, few, s.early) in
      rw (passes s.range, le-ltb 65536 n (omega (arith, n-few, s.words)), lt-leb (2 ^ 64) _ early)

  abbrev pub given : Player
  given = renders (words_for text room q) (after_words (words_for text room q) q.chip) q

  pub lines_are : word_lines text room q ≡ lines_of (words_of (words_for text room q) q.chip)
  unfolding word_lines
  lines_are = rw block-is

  pub given_is : (words_step text room q).player ≡ given
  unfolding words_step
  given_is = rw block-is

  whole : n + (q.words - n) ≡ q.words
  whole = omega (arith, n-few)

  given-stands : Stands text given
  given-stands =
      let on = words-on n q.chip in
      let rest = q.words - n in
      let sum : n * k + rest * k ≡ q.words * k = parts n rest q.words k whole in
      record {
        verdict = s.verdict;
        range = words-kept n s.range;
        good = s.good;
        few = s.few;
        words = omega (arith, s.words);
        early = rw on.cycles (omega (arith, on.start, sum, s.early));
      }
    where
      parts : (a b c k : ℕ) → a + b ≡ c → a * k + b * k ≡ c * k
      parts a b c k e = let z : (a + b) * k ≡ a * k + b * k = omega arith in sym z ∙ ap (λ (i : ℕ). i * k) e

  given-course : course_yet text q ≡ followed_by (words_of n q.chip) (course_yet text given)
  given-course =
      let free : NoneBy (q.chip.core.start + n * k) (writes_yet text q) = free-none text q.at q.chip.core.start k q.words q.writes n n-some (omega arith) in
      ap (λ (i : ℕ). course i (writes_yet text q) q.chip) (sym whole) ∙ blocks n (q.words - n) (writes_yet text q) q.chip free

  pub words_step_lem : q.begun ≡ true → q.ended ≡ false → Step text room q (word_lines text room q) (words_step text room q).player
  words_step_lem b going =
      let writes = q.verdict.writes in
      let line = last_line (course_yet text given).no writes (length (course_yet text given).rest) in
      let words = words_of n q.chip in
      let later = (course_yet text given).words in
      let few = lines-few n s.range in
      rw (given_is, lines_are)
      (record {
        stands = given-stands;
        part = ap (λ (r : List ℕ). lines_of words ++ r) (rest-going text given b going)
            ∙ sym (append_assoc (lines_of words) (lines_of later) line)
            ∙ ap (λ (l : List ℕ). l ++ line) (sym (lines_join words later))
            ∙ sym (rest-going text q b going ∙ ap (course_text writes) given-course);
        last = λ e. absurd (omega (arith, n-some, no_lines n q.chip e));
        within = omega (arith, few);
      })
