-- When an f32 has bits, and when bits are those of a number. Assumes nothing.
use mathlib.Core.Bool.{Bool, true, false, not, ◌&&◌}
use mathlib.Core.Path.{◌≡◌, refl, sym, subst}
use Prim.Native.Nat.{ℕ, ◌/◌, ◌%◌, ◌≤◌}
use native.Mathlib.Omega.{arith}
use borrow.Author.Tests.{eqb-true, eq-eqb}
use lib.Dec.{T, eqb}
use lib.Ieee.{Float, nan, inf, fin, binary32, eq, is_nan, nan_bits}

-- only a NaN differs from itself
pub no_nan : (x : Float) → eq x x ≡ true → T (not (is_nan x))
unfolding eq is_nan
no_nan nan e = let z : ◌≡◌ {A = Bool} false true = e in subst T (sym z) tt
no_nan (inf s) e = tt
no_nan (fin s m e) p = tt

neither : (p q : Bool) → (p ≡ true → q ≡ true) → T (not (p && not q))
neither true q h = rw (h refl) tt
neither false q h = tt

-- up to those of an infinity, whatever the sign
pub number-bits : (b : ℕ) → b % 0x8000_0000 ≤ 0x7f80_0000 → T (not (nan_bits binary32 b))
unfolding nan_bits
number-bits b h =
    neither (eqb (b % 0x8000_0000 / 0x80_0000) 255) (eqb (b % 0x80_0000) 0)
    (λ e. eq-eqb (b % 0x80_0000) 0 (omega (arith, eqb-true (b % 0x8000_0000 / 0x80_0000) 255 e)))
