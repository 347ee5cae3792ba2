-- The first line is a total or a refusal; it has room in 32 bytes, and is not empty. Assumes nothing.
use mathlib.Core.Path.{◌≡◌}
use mathlib.Core.List.{List, []}
use Prim.Native.Nat.{ℕ, ◌*◌, ◌^◌, ◌≤◌, ◌<◌}
use native.Mathlib.Nat.{mul-le-mul}
use native.Mathlib.Omega.{arith}
use lib.ListN.{length}
use Rattle.laws.proofs.Tests.{by-eq}
use Rattle.dump.specs.declared.Verdict.{Verdict}
use Rattle.output_lines.proofs.Saying.{total-few, refusal-few, total-some, refusal-some}
use Rattle.dump_output.specs.Printed.{first_line}

-- a total fits its number
pub total-fits : (words frames : ℕ) → words < 65536 → frames < 65536 → words * frames < 2 ^ 32
total-fits words frames h k =
    let m : words * frames ≤ 65535 * 65535 = mul-le-mul {n₁ = words} {m₁ = frames} {n₂ = 65535} {m₂ = 65535} (omega arith) (omega arith) in
    omega (arith, m)

-- the first line has room in 32 bytes
pub first-few : (v : Verdict) → v.no < 256 → v.line < 2 ^ 32 → v.words < 65536 → v.frames < 65536 → length (first_line v) ≤ 32
unfolding first_line
first-few v n l w f =
    by-eq (λ (l : List ℕ). length l ≤ 32) v.no 0 (λ _. total-few (v.words * v.frames) (total-fits v.words v.frames w f))
    (λ _. refusal-few v.no v.line n l)

pub first_some : (v : Verdict) → first_line v ≡ [] → ⊥
unfolding first_line
first_some v = by-eq (λ (l : List ℕ). l ≡ [] → ⊥) v.no 0 (λ _. total-some (v.words * v.frames)) (λ _. refusal-some v.no v.line)
