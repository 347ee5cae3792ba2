-- What holds of both outcomes of a line holds of what is made of them. Assumes nothing.
use mathlib.Core.Path.{◌≡◌, refl}
use Prim.Native.Nat.{ℕ}
use Rattle.std.specs.Prelude.{Result, Ok, Err}
use Rattle.refusals.specs.declared.Refusal.{Refusal}
use Rattle.dump_clocks.specs.Clocks.{at_line, and_then}
use Rattle.dump_clocks.specs.declared.LineRefused.{LineRefused}

module _ {A B : Type 0} (P : Result B LineRefused → Type 0) where
  pub by-step : (r : Result A LineRefused) {f : A → Result B LineRefused}
      → ((a : A) → r ≡ Ok a → P (f a)) → ((refused : LineRefused) → r ≡ Err refused → P (Err refused)) → P (and_then r f)
  by-step (Ok a) g h = g a refl
  by-step (Err refused) g h = h refused refl

  pub by-line : (r : Result A Refusal) (line : ℕ) {f : A → Result B LineRefused}
      → ((a : A) → r ≡ Ok a → P (f a)) → ((why : Refusal) → P (Err (record { why = why; line = line }))) → P (and_then (at_line r line) f)
  by-line (Ok a) line g h = g a refl
  by-line (Err why) line g h = h why
