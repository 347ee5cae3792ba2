-- `capture_player::next_piece` meets its contract: each step is put behind the bytes so far, and leaves less room (`Filling`). Assumes nothing.
use native.Mathlib.Omega.{arith}
use Rattle.capture_player.proofs.Filling.{filling-start, filling-within, filling-long, filling-ends, filling-on, filling-fits, filling-less}
use Rattle.capture_player.proofs.next_piece.Goals as goal

pub loop-step-init : goal.loop-step-init
loop-step-init c = filling-start _ _ _

pub slice_bounds-step-count : goal.slice_bounds-step-count
slice_bounds-step-count c = omega (arith, filling-within c.loop-step.invariant, filling-long c.loop-step.invariant)

pub slice_bounds-step-start : goal.slice_bounds-step-start
slice_bounds-step-start c = omega (arith, filling-within c.loop-step.invariant, filling-long c.loop-step.invariant)

pub overflow_add-filled : goal.overflow_add-filled
overflow_add-filled c = omega (arith, c.well_formed, filling-fits c.loop-step.invariant c.step-step.ensures.answer c.step-step.ensures.buffer c.out-1.given.0)

pub loop-step-smaller : goal.loop-step-smaller
loop-step-smaller c = filling-less c.loop-step.invariant c.step-step.ensures.answer c.step-step.ensures.buffer c.out-1.given.0 c.if-step-eq0.false

pub loop-step-preserved : goal.loop-step-preserved
loop-step-preserved c = filling-on c.loop-step.invariant c.step-step.ensures.answer c.step-step.ensures.buffer c.out-1.given.0 c.if-step-eq0.false

pub shape_of-out : goal.shape_of-out
shape_of-out c = omega (arith, c.out-1.given.1, filling-long c.loop-step.invariant)

pub returns : goal.returns
returns c = let both = filling-ends c.loop-step.invariant c.step-step.ensures.answer c.step-step.ensures.buffer c.out-1.given.0 c.if-step-eq0.true in record { answer = both.0; buffer = both.1 }
