-- Bytes laid over a buffer, and more laid after them. Assumes nothing.
use mathlib.Core.Path.{◌≡◌, ap, ◌∙◌}
use mathlib.Core.List.{List, [], ◌++◌, append_assoc}
use Prim.Native.Nat.{ℕ, ◌+◌, ◌≤◌}
use native.Mathlib.Omega.{arith}
use borrow.Author.Tests.{le-leb}
use lib.ListN.{length, take, drop, length-append}
use lib.Seq.{paste, length-take-le, take-length, take_at, drop-append-add, drop-drop, paste-zero, length-paste}
use Rattle.text_put.specs.Text.{overlaid, laid, place_after}

module _ (out : List ℕ) (at : ℕ) (bytes : List ℕ) where
  pub laid-over : at + length bytes ≤ length out → laid out at bytes ≡ overlaid out at bytes
  unfolding laid
  laid-over h = rw (le-leb (at + length bytes) (length out) h)

  pub place-over : at + length bytes ≤ length out → place_after out at bytes ≡ at + length bytes
  unfolding place_after
  place-over h = rw (le-leb (at + length bytes) (length out) h)

  -- all of the bytes, as a copy pastes them
  pub over-paste : overlaid out at bytes ≡ paste out at bytes (length bytes)
  over-paste = rw (take-length bytes)

  pub over-long : at + length bytes ≤ length out → length (overlaid out at bytes) ≡ length out
  over-long h = rw over-paste (length-paste out at bytes (length bytes) h (omega arith))

pub over_none : (out : List ℕ) (at : ℕ) → out ≡ overlaid out at []
over_none out at = paste-zero out at []

pub over-over : (out : List ℕ) (at : ℕ) (a b : List ℕ) → at + length a ≤ length out
    → overlaid (overlaid out at a) (at + length a) b ≡ overlaid out at (a ++ b)
over-over out at a b h =
    let p : List ℕ = take at out ++ a in
    let rest : List ℕ = drop (at + length a) out in
    let long : length p ≡ at + length a = length-append (take at out) a ∙ ap (λ (k : ℕ). k + length a) (length-take-le at out (omega arith)) in
    let front : take (at + length a) (overlaid out at a) ≡ p = take_at p rest (at + length a) long in
    let z : at + length a + length b ≡ length p + length b = omega (arith, long) in
    let y : at + length a + length b ≡ at + length (a ++ b) = omega (arith, length-append a b) in
    let back : drop (at + length a + length b) (overlaid out at a) ≡ drop (at + length (a ++ b)) out
    = rw z (drop-append-add p rest (length b)) ∙ drop-drop (length b) (at + length a) out ∙ ap (λ (k : ℕ). drop k out) y
    in
    rw (front, back) (ap (λ (l : List ℕ). l ++ drop (at + length (a ++ b)) out) (append_assoc (take at out) a b))
