-- The ticks of a word keep the generators in range, and the envelope's shape. Assumes nothing.
use mathlib.Core.Path.{◌≡◌, refl, ◌∙◌}
use Prim.Native.Nat.{ℕ, zero, suc, ◌+◌}
use Rattle.laws.proofs.Tests.{by_le}
use Rattle.envelope.proofs.Circling.{tick-offset}
use Rattle.generators.specs.declared.Generators.{Generators}
use Rattle.generators.specs.Generators.{tick}
use Rattle.generators.specs.Range.{GeneratorsInRange}
use Rattle.generators.proofs.InRange.{tick-in}
use Rattle.gates.specs.declared.Gates.{Gates}
use Rattle.clocking_ticks.specs.declared.Ran.{Ran}
use Rattle.clocking_ticks.specs.Ticks.{one_more, ticking, ticked}

ticking-in : (k : ℕ) (gates : Gates) (rate internal : ℕ) (r : Ran) → GeneratorsInRange r.generators
    → GeneratorsInRange (ticking k gates rate internal r).generators
unfolding ticking
ticking-in zero gates rate internal r h = h
ticking-in (suc k) gates rate internal r h =
    by_le (λ (x : Ran). GeneratorsInRange x.generators) internal (r.accumulator + rate) (λ _. tick-in h)
    (λ _. ticking-in k gates rate internal (one_more gates rate r) (tick-in h))

pub ticked-in : (gates : Gates) (rate internal : ℕ) {g : Generators} (accumulator : ℕ) → GeneratorsInRange g
    → GeneratorsInRange (ticked gates rate internal g accumulator).generators
unfolding ticked
ticked-in gates rate internal accumulator h = ticking-in internal gates rate internal _ h

shape : Generators → ℕ
shape g = g.envelope.offset

ticking-shape : (k : ℕ) (gates : Gates) (rate internal : ℕ) (r : Ran) → shape (ticking k gates rate internal r).generators ≡ shape r.generators
unfolding ticking tick shape
ticking-shape zero gates rate internal r = refl
ticking-shape (suc k) gates rate internal r =
    by_le (λ (x : Ran). shape x.generators ≡ shape r.generators) internal (r.accumulator + rate)
    (λ _. tick-offset r.generators.envelope)
    (λ _. ticking-shape k gates rate internal (one_more gates rate r) ∙ tick-offset r.generators.envelope)

pub ticked-shape : (gates : Gates) (rate internal : ℕ) (g : Generators) (accumulator : ℕ)
    → (ticked gates rate internal g accumulator).generators.envelope.offset ≡ g.envelope.offset
unfolding ticked shape
ticked-shape gates rate internal g accumulator = ticking-shape internal gates rate internal _
