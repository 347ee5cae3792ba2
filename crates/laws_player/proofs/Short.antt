-- The whole output is far shorter than any number that counts its bytes. Assumes nothing.
use mathlib.Core.List.{List, ◌++◌}
use mathlib.Core.Path.{◌≡◌, ap, ◌∙◌}
use Prim.Native.Nat.{ℕ, zero, suc, ◌+◌, ◌*◌, ◌^◌, ◌≤◌, ◌<◌}
use native.Mathlib.Nat.{mul-le-mul}
use native.Mathlib.Omega.{arith}
use lib.ListN.{length, length-append}
use Rattle.dump.specs.Checked.{verdict_of}
use Rattle.dump_output.specs.Printed.{first_line}
use Rattle.dump_output.proofs.Saying.{first-few}
use Rattle.dump_words.specs.Words.{lines_of}
use Rattle.dump_played.specs.Whole.{value_of, frame_words, words_in, printed}
use Rattle.dump_played.proofs.Whole.{frame-kept, chip-range}
use Rattle.laws_player.proofs.Verdicts.{verdict-told}
use Rattle.dump_words.proofs.Lining.{lines_join}
use Rattle.laws_player.proofs.Words.{lines-few}
use Rattle.laws_player.proofs.Standing.{first_then}

module _ (text : List ℕ) where
  frame-few : (f : ℕ) → length (lines_of (frame_words text f)) ≤ 6 * (verdict_of text).words
  unfolding frame_words
  frame-few f = lines-few (verdict_of text).words (frame-kept (value_of text f) (chip-range text f))

  frames-few : (f : ℕ) → length (lines_of (words_in text f)) ≤ 6 * (f * (verdict_of text).words)
  unfolding words_in lines_of
  frames-few zero = omega arith
  frames-few (suc f) =
      let n = (verdict_of text).words in
      let long : length (lines_of (words_in text f ++ frame_words text f)) ≡ length (lines_of (words_in text f)) + length (lines_of (frame_words text f))
      = ap length (lines_join (words_in text f) (frame_words text f)) ∙ length-append (lines_of (words_in text f)) (lines_of (frame_words text f))
      in
      let z : suc f * n ≡ f * n + n = omega arith in
      omega (arith, long, z, frames-few f, frame-few f)

  pub printed-short : length (printed text) < 2 ^ 32
  printed-short =
      let v = verdict_of text in
      let t = verdict-told text in
      let few = first-few v t.no (omega (arith, t.line)) (omega (arith, t.words)) (omega (arith, t.frames)) in
      let most : v.frames * v.words ≤ 1900 * 4096 = mul-le-mul {n₁ = v.frames} {m₁ = v.words} {n₂ = 1900} {m₂ = 4096} t.frames t.words in
      let long : length (printed text) ≡ length (first_line v) + length (lines_of (words_in text v.frames))
      = rw (← first_then text) (length-append (first_line v) (lines_of (words_in text v.frames)))
      in
      omega (arith, few, most, long, frames-few v.frames)
