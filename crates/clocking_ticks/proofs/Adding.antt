-- What the ticks of a word add up to: at the rate, with what the accumulator held, one internal clock and what it holds afterwards.
-- Assumes nothing.
use mathlib.Core.Path.{◌≡◌}
use Prim.Native.Nat.{ℕ, zero, suc, ◌+◌, ◌*◌, ◌≤◌, ◌<◌}
use native.Mathlib.Nat.{suc-mul}
use native.Mathlib.Numerals.{add-one}
use native.Mathlib.Omega.{arith}
use Rattle.laws.proofs.Tests.{by_le}
use Rattle.generators.specs.declared.Generators.{Generators}
use Rattle.gates.specs.declared.Gates.{Gates}
use Rattle.clocking_ticks.specs.declared.Ran.{Ran}
use Rattle.clocking_ticks.specs.Ticks.{one_more, ticking, ticked}
use Rattle.clocks.specs.Range.{ClocksRun}

pub record Adds (rate internal accumulator n : ℕ) (r : Ran) : Type 0 where
  pub sum : r.ticks * rate + accumulator ≡ n * rate + internal + r.accumulator
  pub under : r.accumulator < rate

adds : (k : ℕ) (gates : Gates) (rate internal : ℕ) (r : Ran) → r.accumulator < internal → 0 < rate → internal ≤ r.accumulator + k
    → Adds rate internal r.accumulator r.ticks (ticking k gates rate internal r)
unfolding ticking
adds zero gates rate internal r h p e = absurd (omega arith)
adds (suc k) gates rate internal r h p e =
    by_le (Adds rate internal r.accumulator r.ticks) internal (r.accumulator + rate)
    (λ q. record { sum = rw (add-one, suc-mul) (omega arith); under = omega arith })
    (λ q.
    let next = one_more gates rate r in
    let s : Adds rate internal next.accumulator next.ticks (ticking k gates rate internal next)
    = adds k gates rate internal next q p (omega arith)
    in
    let one : (r.ticks + 1) * rate ≡ r.ticks * rate + rate = rw (add-one, suc-mul) in
    record { sum = omega (arith, s.sum); under = s.under })

pub ticked-adds : (gates : Gates) {rate internal : ℕ} (g : Generators) {accumulator : ℕ} → ClocksRun accumulator rate internal
    → Adds rate internal accumulator 0 (ticked gates rate internal g accumulator)
unfolding ticked
ticked-adds gates {rate} {internal} g {accumulator} h = adds internal gates rate internal _ (omega arith) (omega arith) (omega arith)
