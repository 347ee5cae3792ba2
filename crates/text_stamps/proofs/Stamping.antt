-- A stamp read of any text is at most 2^64 - 1. Assumes nothing.
use mathlib.Core.List.{List}
use Prim.Native.Nat.{ℕ, ◌≤◌}
use Rattle.std.specs.Prelude.{Option, Some, None, Result, IfOk}
use Rattle.laws.proofs.Tests.{by-lt}
use Rattle.text_fields.specs.Fields.{decimal_up_to}
use Rattle.text_stamps.specs.Stamps.{ranged, long_decimal_of}
use Rattle.text_stamps.specs.declared.Misread.{Misread}

abbrev Held : Result ℕ Misread → Type 0
Held read = IfOk read (λ (n : ℕ). n ≤ 18446744073709551615)

held-ranged : (o : Option ℕ) → Held (ranged o)
held-ranged None = tt
held-ranged (Some n) = by-lt Held 18446744073709551615 n (λ _. tt) (λ h. h)

pub stamp-held : (s : List ℕ) → Held (long_decimal_of s)
unfolding long_decimal_of
stamp-held s = held-ranged (decimal_up_to 20 s)
