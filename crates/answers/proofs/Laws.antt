-- What a call has once its record is tested; and a report keeps the call's number and chip. Assumes nothing.
use mathlib.Core.Bool.{Bool, false, not}
use mathlib.Core.List.{List}
use mathlib.Core.Path.{◌≡◌, refl, sym, ◌∙◌}
use lib.Dec.{eqb}
use borrow.Author.Tests.{not-false}
use Rattle.laws.proofs.Tests.{by_cond}
use Rattle.refusals.specs.Numbers.{accepted}
use Rattle.registers.specs.Writes.{RegisterWrite}
use Rattle.chip.specs.declared.Chip.{Chip}
use Rattle.chip.specs.Range.{chip_in}
use Rattle.chip.proofs.InRange.{InRange, Laid, passed}
use Rattle.answers.specs.Answers.{answered}
use Rattle.answers.specs.Reports.{applied, written}
use Rattle.answers.specs.declared.Answered.{Answered}
use Rattle.answers.specs.declared.Applied.{Applied}
use Rattle.answers.specs.declared.Counts.{Counts}
use Rattle.answers.specs.declared.Written.{Written}
use Rattle.answers.specs.declared.Wrote.{Wrote}

-- what passes the test is in range
pub in-range : (c : Chip) {r : Bool} → r ≡ chip_in c → Laid c → not r ≡ false → InRange c
in-range c {r} e l n = passed l (sym e ∙ not-false r n)

-- the number and the chip of what reports its writes are those of the call without its report (02, request 03)
abbrev pub of_one : Written → Answered
of_one w = answered w.answer.no w.chip

abbrev pub of_some : Applied → Answered
of_some w = answered w.answer.no w.chip

pub one-is : (changed restarted : Bool) (a : Answered) → a ≡ of_one (written changed restarted a)
one-is changed restarted a = by_cond (λ (w : Wrote). a ≡ answered w.no a.chip) (eqb a.no accepted) _ _ (λ _. refl) (λ _. refl)

pub some_is : (writes : List RegisterWrite) (c : Chip) (a : Answered) → a ≡ of_some (applied writes c a)
some_is writes c a = by_cond (λ (w : Counts). a ≡ answered w.no a.chip) (eqb a.no accepted) _ _ (λ _. refl) (λ _. refl)
