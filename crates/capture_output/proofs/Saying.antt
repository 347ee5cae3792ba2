-- The first and the last line have room in 32 bytes, and neither is empty. Assumes nothing.
use mathlib.Core.Path.{◌≡◌}
use mathlib.Core.List.{List, []}
use Prim.Native.Nat.{ℕ, ◌^◌, ◌≤◌, ◌<◌}
use native.Mathlib.Omega.{arith}
use lib.ListN.{length}
use Rattle.laws.proofs.Tests.{by-eq}
use Rattle.capture.specs.declared.Captured.{Captured}
use Rattle.output_lines.proofs.Saying.{total-few, left-few, refusal-few, total-some, left-some, refusal-some}
use Rattle.capture_output.specs.Ends.{first_line, line_of, last_line}

pub first-few : (v : Captured) → v.no < 256 → v.line < 2 ^ 32 → v.words < 2 ^ 32 → length (first_line v) ≤ 32
unfolding first_line
first-few v n l w =
    by-eq (λ (s : List ℕ). length s ≤ 32) v.no 0 (λ _. total-few v.words w) (λ _. refusal-few v.no v.line n l)

pub first_some : (v : Captured) → first_line v ≡ [] → ⊥
unfolding first_line
first_some v = by-eq (λ (s : List ℕ). s ≡ [] → ⊥) v.no 0 (λ _. total-some v.words) (λ _. refusal-some v.no v.line)

pub last-few : (number writes left : ℕ) → number < 256 → writes < 65536 → left < 65536 → length (last_line number writes left) ≤ 32
unfolding last_line
last-few number writes left n w l =
    by-eq (λ (s : List ℕ). length s ≤ 32) number 0 (λ _. left-few _ (omega arith)) (λ _. refusal-few number (line_of writes left) n (omega arith))

pub last_some : (number writes left : ℕ) → last_line number writes left ≡ [] → ⊥
unfolding last_line
last_some number writes left =
    by-eq (λ (s : List ℕ). s ≡ [] → ⊥) number 0 (λ _. left-some _) (λ _. refusal-some number (line_of writes left))
