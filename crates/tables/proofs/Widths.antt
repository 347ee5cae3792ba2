-- A register's mask from its width: one test that the checker computes at all fourteen. Assumes nothing.
use mathlib.Core.Path.{◌≡◌}
use Prim.Native.Nat.{ℕ, suc, ◌-◌, ◌*◌, ◌/◌, ◌%◌, ◌^◌, ◌≤◌, ◌<◌}
use native.Mathlib.Omega.{arith}
use lib.Dec.{T, eqb, eqb→eq}
use Rattle.laws.proofs.Table.{all, each, under}
use Rattle.tables.specs.Masks.{register_mask, register_masks}

-- 2 to a register's width, as a number of 32 bits; the width is the register's hex digit
abbrev pub power : ℕ → ℕ → ℕ
power widths register = 1 * 2 ^ (widths / 2 ^ (4 * register) % 16) % 2 ^ 32

module _ (widths : ℕ) (right : T (all 14 (λ r. eqb (power widths r) (suc (register_mask r))))) (r : ℕ) (h : r < 14) where
  above : power widths r ≡ suc (register_mask r)
  above = eqb→eq (power widths r) (suc (register_mask r)) (each 14 (λ r. eqb (power widths r) (suc (register_mask r))) right r h)

  pub power-some : 1 ≤ power widths r
  power-some = omega (arith, above)

  pub mask-made : power widths r - 1 ≡ register_mask r
  mask-made = omega (arith, above)

  pub mask-small : power widths r - 1 < 256
  mask-small = omega (arith, above, under 256 register_masks tt r h)
