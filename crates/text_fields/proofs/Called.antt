-- A value chosen by a test that a call answered, or by a number that a call gave. Assumes nothing.
use mathlib.Core.Bool.{Bool, true, false, cond}
use mathlib.Core.Path.{◌≡◌, sym, ◌∙◌}
use Prim.Native.Nat.{ℕ, ◌≤◌}
use lib.Dec.{ltb}
use Rattle.laws.proofs.Tests.{on-true, on-false, on-ge}

pub on-held : {A : Type 0} (r t : Bool) (x a b : A) → r ≡ t → r ≡ true → x ≡ a → x ≡ cond t a b
on-held r t x a b e h p = on-true t x a b (sym e ∙ h) p

pub on-failed : {A : Type 0} (r t : Bool) (x a b : A) → r ≡ t → r ≡ false → x ≡ b → x ≡ cond t a b
on-failed r t x a b e h p = on-false t x a b (sym e ∙ h) p

-- `ltb 0 n` computes to a test on 1, which `on-ge` does not fit
pub on-zero : {A : Type 0} (n : ℕ) (x a b : A) → n ≤ 0 → x ≡ b → x ≡ cond (ltb 0 n) a b
on-zero n x a b h p = on-ge 0 n x a b h p

pub ruleset called = (on-held, on-failed, on-zero)
