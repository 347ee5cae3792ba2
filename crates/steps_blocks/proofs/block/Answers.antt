-- `steps_blocks::block` meets its contract: the test, then the block's, say which case holds. Assumes nothing.
use mathlib.Core.Path.{◌∙◌, refl}
use borrow.Author.Tests.{not-false}
use Rattle.queue.specs.Waiting.{ring}
use Rattle.refusals.proofs.Tested.{accepted-by, number-some, refused-by}
use Rattle.block_limits.specs.Limits.{block_number}
use Rattle.block_limits.proofs.Fits.{fits}
use Rattle.clocking_block.specs.Block.{chip_with}
use Rattle.steps_words.specs.WordSteps.{Playable}
use Rattle.steps_blocks.proofs.Cases.{few, step-out, step-late, step-played, buffer-out, buffer-late, buffer-filled}
use mathlib.Core.Bool.{not}
use mathlib.Core.Path.{ap}
use Rattle.steps_blocks.proofs.block.Goals as goal

pub returns-then-not-ok : goal.returns-then-not-ok
returns-then-not-ok c = let out = (ap not c.if-not-ok.true) in record { answer = c.unrendered.ensures ∙ step-out _ _ _ out; buffer = buffer-out _ _ _ out }

pub returns-in-Err : goal.returns-in-Err
unfolding block_number
returns-in-Err c = let passed = (ap not c.if-not-ok.false) in
    let number = refused-by c.accept_block.ensures c.in-Err.is in record { answer = rw (c.unrendered-in-Err.ensures, c.number.ensures) (step-late _ _ _ passed number (number-some _)); buffer = buffer-late _ _ _ passed number (number-some _) }

pub render-rendered-requires : goal.render-rendered-requires
unfolding block_number
render-rendered-requires c = let a = c.args in let sound : Playable (chip_with a.core (ring a.stamps.now a.registers.now a.values.now a.head a.count)) = c.requires (not-false _ (ap not c.if-not-ok.false)) in let s = sound in
    let f = fits _ _ _ (accepted-by c.accept_block.ensures c.in_default.is) in record { core_in_range = s.0; queue_in_range = s.1; out_len_bound = f.short; cycles_bound = f.soon }

-- what the block left to wait is no more than waited
pub overflow_sub-count : goal.overflow_sub-count
overflow_sub-count c = few _ _ c.render-rendered.ensures.value

pub returns : goal.returns
unfolding block_number
returns c = let passed = (ap not c.if-not-ok.false) in
    let number = accepted-by c.accept_block.ensures c.in_default.is in record { answer = step-played _ _ _ passed refl number c.render-rendered.ensures.value c.effects-told.ensures; buffer = buffer-filled _ _ _ passed refl number c.render-rendered.ensures.out_after }
