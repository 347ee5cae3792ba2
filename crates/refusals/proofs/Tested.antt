-- The number of a test's answer, by its two cases: a refusal's is never 0. Assumes nothing.
use mathlib.Core.Path.{◌≡◌, sym, ◌∙◌}
use native.Mathlib.Omega.{arith}
use Rattle.std.specs.Prelude.{Result, Ok, Err}
use Rattle.refusals.specs.Numbers.{accepted, answer_no, number_of}
use Rattle.refusals.specs.declared.Refusal.{Refusal}

pub number-some : (why : Refusal) → number_of why ≡ accepted → ⊥
number-some why e = grind arith

module _ {A : Type 0} {tested rule : Result A Refusal} (e : tested ≡ rule) where
  pub accepted-by : {x : A} → tested ≡ Ok x → answer_no rule ≡ accepted
  accepted-by ok = rw (sym e ∙ ok)

  pub refused-by : {why : Refusal} → tested ≡ Err why → number_of why ≡ answer_no rule
  refused-by err = rw (sym e ∙ err)

  pub refused-some : {why : Refusal} → tested ≡ Err why → answer_no rule ≡ accepted → ⊥
  refused-some {why} err z = number-some why (refused-by err ∙ z)
