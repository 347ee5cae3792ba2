-- Marks of registers, as bits: which are there after one more. Assumes nothing.
use mathlib.Core.Bool.{false, cond}
use mathlib.Core.Path.{◌≡◌, sym, ap, ap₂, ◌∙◌}
use Prim.Native.Nat.{ℕ, ◌*◌, ◌/◌, ◌%◌, ◌^◌, ◌<◌, min, max}
use native.Mathlib.Omega.{arith}
use borrow.Author.Tests.{ne_eqb}
use lib.Arith.{bin_ind}
use lib.Bits.{bit_and, bit_or, and_step, or_step, and_shr, or_shr, and_zero_r, or_zero_r, and_comm, or_add_and, and_le_l, and_le_r}
use lib.Dec.{eqb, eqb→eq}
use Rattle.laws.proofs.Table.{each}
use Rattle.laws.proofs.Tests.{by-same}
use Rattle.stored_bytes.specs.Marks.{marked, unwritten}

-- a register's mark, as the code shifts it
pub mark-bit : (register : ℕ) → register < 14 → 1 * 2 ^ register % 2 ^ 32 ≡ 2 ^ register
mark-bit r h = eqb→eq (1 * 2 ^ r % 2 ^ 32) (2 ^ r) (each 14 (λ r. eqb (1 * 2 ^ r % 2 ^ 32) (2 ^ r)) tt r h)

-- a bit is in one of two numbers and in a third
digit : (x y z : ℕ) → min (max x y) z ≡ max (min x z) (min y z)
digit x y z = omega arith

or-odd : (a b : ℕ) → bit_or a b % 2 ≡ max (a % 2) (b % 2)
or-odd a b = omega (arith, or_step a b)

and-odd : (a b : ℕ) → bit_and a b % 2 ≡ min (a % 2) (b % 2)
and-odd a b = omega (arith, and_step a b)

and-or : (c a b : ℕ) → bit_and (bit_or a b) c ≡ bit_or (bit_and a c) (bit_and b c)
and-or =
    bin_ind (λ (c : ℕ). (a b : ℕ) → bit_and (bit_or a b) c ≡ bit_or (bit_and a c) (bit_and b c))
    (λ a b. and_zero_r (bit_or a b) ∙ sym (ap₂ bit_or (and_zero_r a) (and_zero_r b)))
    (λ c half a b.
    and_step (bit_or a b) c
    ∙ rw (or_shr a b 1, or-odd a b, half (a / 2) (b / 2), digit (a % 2) (b % 2) (c % 2))
    (sym (or_step (bit_and a c) (bit_and b c) ∙ rw (and_shr a c 1, and_shr b c 1, and-odd a c, and-odd b c))))

-- an `or` is 0 where both of its parts are
or-none : (a b : ℕ) → eqb (bit_or a b) 0 ≡ cond (eqb b 0) (eqb a 0) false
or-none a b =
    by-same b 0 (λ e. rw (e, or_zero_r a))
    (λ n. rw (ne_eqb b 0 n, ne_eqb (bit_or a b) 0 (λ e. n (omega (arith, or_add_and a b, and_le_l a b)))))

-- one more mark: registers are unwritten where it is none of theirs, and they were before
pub unwritten-marked : (registers register marks : ℕ)
    → unwritten registers (marked register marks) ≡ cond (unwritten registers (2 ^ register)) (unwritten registers marks) false
unwritten-marked m r t = ap (λ (n : ℕ). eqb n 0) (and-or m t (2 ^ r)) ∙ or-none (bit_and t m) (bit_and (2 ^ r) m)

-- of registers that are all unwritten each is
module _ (some others marks : ℕ) (none : bit_and marks (bit_or some others) ≡ 0) where
  both : bit_or (bit_and some marks) (bit_and others marks) ≡ 0
  both = sym (and-or marks some others) ∙ and_comm (bit_or some others) marks ∙ none

  pub some-unwritten : bit_and marks some ≡ 0
  some-unwritten =
      and_comm marks some
      ∙ omega (arith, both, or_add_and (bit_and some marks) (bit_and others marks), and_le_r (bit_and some marks) (bit_and others marks))

  pub others-unwritten : bit_and marks others ≡ 0
  others-unwritten =
      and_comm marks others
      ∙ omega (arith, both, or_add_and (bit_and some marks) (bit_and others marks), and_le_l (bit_and some marks) (bit_and others marks))
