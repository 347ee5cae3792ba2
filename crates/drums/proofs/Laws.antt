-- A drum gives at most 10922, and its cut is Rust's own. 01, "One tick, one word". Assumes nothing.
use mathlib.Core.Path.{◌≡◌, refl}
use mathlib.Core.Bool.{true, false}
use Prim.Native.Nat.{ℕ, ◌-◌, ◌*◌, ◌/◌, ◌^◌, ◌≤◌, min}
use native.Mathlib.Nat.{min-le_right}
use native.Mathlib.Omega.{arith}
use lib.Ieee.{Float, nan, inf, fin, up, down, to_unsigned}
use Rattle.drums.specs.Drums.{float, quotient, times, cut_of, drum_out}

-- the cut is Rust's `(x as u32).min(10922)`
pub as-rust : (x : Float) → cut_of x ≡ min (to_unsigned 32 x) 10922
unfolding cut_of to_unsigned
as-rust nan = refl
as-rust (inf true) = refl
as-rust (inf false) = refl
as-rust (fin true m e) = refl
as-rust (fin false m e) = capped (m * up e / down e)
  where
    capped : (n : ℕ) → min n 10922 ≡ min (min n (2 ^ 32 - 1)) 10922
    capped n = omega arith

-- no cut is above 10922
pub cut-le : (x : Float) → cut_of x ≤ 10922
cut-le x = rw as-rust (min-le_right (to_unsigned 32 x) 10922)

-- nor is a drum's output
pub drum-le : (s : Float) → drum_out s ≤ 10922
unfolding drum_out
drum-le s = cut-le (times (quotient s (float 4)) (float 10922))
