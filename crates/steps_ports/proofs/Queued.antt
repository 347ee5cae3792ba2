-- A data write that finds room goes behind those that wait. Assumes nothing.
use mathlib.Core.Bool.{Bool, false, not}
use mathlib.Core.Path.{◌≡◌, refl, ap}
use Prim.Native.Nat.{ℕ, ◌+◌, ◌%◌, ◌<◌}
use native.Mathlib.Omega.{arith}
use Rattle.laws.proofs.Tests.{on-false, on-gt, on-yes}
use Rattle.refusals.specs.Numbers.{accepted}
use Rattle.steps_registers.specs.RegisterSteps.{bit1_clear}
use Rattle.steps_ports.specs.PortSteps.{port_queued, queued_as}

pub queued-yes : (ok : Bool) (selected stamp head count port value : ℕ) → not ok ≡ false → bit1_clear port ≡ false → count < 256
    → queued_as selected (count + 1) ((head % 256 + count) % 256) stamp selected value accepted ≡ port_queued ok selected stamp head count port value
unfolding port_queued
queued-yes ok selected stamp head count port value in-range bit-1 room =
    let e : (head % 256 + count) % 256 ≡ (head + count) % 256 = omega arith in
    on-yes ok ok _ _ _ refl in-range (on-false (bit1_clear port) _ _ _ bit-1 (on-gt 256 count _ _ _ room (ap (λ (at : ℕ). queued_as selected (count + 1) at stamp selected value accepted) e)))
