-- Writes applied in order: joined lists are applied one after the other, and writes of the same bytes are the same. Assumes nothing.
use mathlib.Core.List.{List, [], ◌∷◌, ◌++◌}
use mathlib.Core.Path.{◌≡◌, refl}
use Prim.Native.Nat.{ℕ, zero, suc, ◌+◌, ◌<◌}
use native.Mathlib.Omega.{arith}
use Rattle.registers.specs.declared.Voice.{Voice}
use Rattle.registers.specs.Registers.{apply_register}
use Rattle.registers.specs.Writes.{RegisterWrite, applied_in_order, registers_from}

pub applied-append : (xs ys : List RegisterWrite) (v : Voice) → applied_in_order (xs ++ ys) v ≡ applied_in_order ys (applied_in_order xs v)
unfolding applied_in_order
applied-append [] ys v = refl
applied-append (x ∷ xs) ys v = applied-append xs ys (apply_register x.register x.value v)

pub registers-same : (f g : ℕ → ℕ) (n k : ℕ) → ((r : ℕ) → r < n + k → f r ≡ g r) → registers_from n k f ≡ registers_from n k g
unfolding registers_from
registers-same f g zero k h = refl
registers-same f g (suc n) k h = rw (h k (omega arith), registers-same f g n (k + 1) (λ r l. h r (omega arith)))
