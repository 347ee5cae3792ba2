-- Where lines stand: a line starts at its place, and each header line where the one before it ends. Assumes nothing.
use mathlib.Core.Bool.{true, false}
use mathlib.Core.Path.{◌≡◌, refl}
use mathlib.Core.List.{List}
use Prim.Native.Nat.{ℕ, ◌+◌}
use lib.Dec.{ltb}
use lib.ListN.{length}
use Rattle.laws.proofs.Tests.{by_cond}
use Rattle.text_lines.specs.Lines.{end_at, line_at}
use Rattle.text_lines.specs.declared.Line.{Line}
use Rattle.dump_reader.specs.Header.{first_lines}
use Rattle.dump_reader.specs.declared.FirstLines.{FirstLines}

pub line-start : (t : List ℕ) (at : ℕ) → (line_at t at).start ≡ at
unfolding line_at
line-start t at =
    by_cond (λ (l : Line). l.start ≡ at) (ltb (end_at t at) (length t)) (record { start = at; end = end_at t at; next = end_at t at + 1; whole = true })
    (record { start = at; end = end_at t at; next = end_at t at; whole = false }) (λ _. refl) (λ _. refl)

module _ (t : List ℕ) {lines : FirstLines} (w : lines ≡ first_lines t) where
  pub first-at : lines.one.start ≡ 0
  unfolding first_lines
  first-at = rw w (line-start t 0)

  pub second_at : lines.two.start ≡ (line_at t 0).next
  unfolding first_lines
  second_at = rw w (line-start t (line_at t 0).next)

  pub third_at : lines.three.start ≡ lines.two.next
  unfolding first_lines
  third_at = rw w (line-start t (line_at t (line_at t 0).next).next)

  pub fourth-at : lines.four.start ≡ lines.three.next
  unfolding first_lines
  fourth-at = rw w (line-start t (line_at t (line_at t (line_at t 0).next).next).next)

  -- the second and the third are the lines at their places
  pub second_is : lines.two ≡ line_at t (line_at t 0).next
  unfolding first_lines
  second_is = rw w

  pub third-is : lines.three ≡ line_at t lines.two.next
  unfolding first_lines
  third-is = rw w
