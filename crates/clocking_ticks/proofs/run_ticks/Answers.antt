-- `clocking_ticks::run_ticks` meets its contract: the invariant and its steps are laws of `proofs/Ticking.antt`. Assumes nothing.
use mathlib.Core.Path.{◌∙◌, ap}
use native.Mathlib.Omega.{arith}
use Rattle.clocking_generators.specs.Turning.{shown}
use Rattle.clocking_generators.proofs.Shown.{shown_of}
use Rattle.clocking_ticks.proofs.Ticking.{closing-start, closing-next, closing-done}
use Rattle.clocking_ticks.proofs.run_ticks.Goals as goal

pub overflow_sub-gap : goal.overflow_sub-gap
overflow_sub-gap c = omega (arith, c.requires.clocks_run.under, c.requires.clocks_run.slow)

pub loop-gap-init : goal.loop-gap-init
loop-gap-init c = search closing-start

pub loop-gap-preserved : goal.loop-gap-preserved
loop-gap-preserved c = search closing-next

pub returns : goal.returns
returns c = let ticked = c.tick-turning.ensures in
    let began = ap shown c.of-turning.ensures.0 ∙ shown_of c.requires.generators_in_range in
    closing-done c.loop-gap.invariant ticked.0 ticked.1 c.gate-gathered.ensures c.if-gap-rate.true c.generators-after.ensures began
