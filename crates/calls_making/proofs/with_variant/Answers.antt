-- `calls_making::with_variant` meets its contract: the making's test says which case holds. Assumes nothing.
use mathlib.Core.Path.{ap₂, ◌∙◌}
use Prim.Native.Nat.{ℕ}
use Rattle.laws.proofs.Tests.{on-eq, on-ne}
use Rattle.chip.specs.declared.Chip.{Chip}
use Rattle.answers.specs.Answers.{answered}
use Rattle.refusals.proofs.Tested.{accepted-by, refused-by, refused-some}
use Rattle.variants.specs.Variants.{making_no}
use Rattle.variants.proofs.Makings.{clocks-accepted}
use Rattle.calls_making.specs.Making.{with_variant}
use Rattle.calls_making.proofs.with_variant.Goals as goal

pub clocks_of-requires : goal.clocks_of-requires
unfolding making_no
clocks_of-requires c = clocks-accepted _ _ _ (accepted-by c.accept_making.ensures c.in-Ok.is)

pub returns-in-Ok : goal.returns-in-Ok
unfolding with_variant making_no
returns-in-Ok c = on-eq _ 0 _ _ _ (accepted-by c.accept_making.ensures c.in-Ok.is) (c.accepted.ensures ∙ rw (c.made.ensures, c.clocks_of.ensures))

pub returns-in-Err : goal.returns-in-Err
unfolding with_variant making_no
returns-in-Err c =
    on-ne _ 0 _ _ _ (refused-some c.accept_making.ensures c.in-Err.is)
    (ap₂ (λ (n : ℕ) (chip : Chip). answered n chip) (c.number.ensures ∙ refused-by c.accept_making.ensures c.in-Err.is) c.new.ensures)
