-- `calls_words::block` meets its contract: its step's answer, the step's parts stored, and the buffer as the step leaves it (`Blocking`). Assumes nothing.
use mathlib.Core.Path.{sym, ap, ◌∙◌}
use mathlib.Core.Bool.{Bool}
use lib.ListN.{length}
use borrow.Author.Rules.{rules}
use Rattle.chip.proofs.InRange.{Laid, passed, core-runs}
use Rattle.steps_blocks.specs.declared.BlockStep.{BlockStep}
use Rattle.steps_blocks.specs.BlockSteps.{block_step, buffer_left}
use Rattle.calls_words.proofs.Blocking.{blocked_by, blocked-by, buffer-by}
use Rattle.calls_words.proofs.block.Goals as goal

pub block-played-requires : goal.block-played-requires
block-played-requires c = let laid : Laid c.args.chip = record { registers = search rules; stamps = search rules; numbers = search rules; values = search rules } in λ ok.
    let s = passed laid (sym c.in_range-ok.ensures ∙ ok) in
    (core-runs s, s.queue)

pub returns : goal.returns
returns c = let chip = c.args.chip in
    let out = c.args.out.now in
    let ok = c.in_range-ok.ensures in record { answer = ap (λ (s : BlockStep). blocked_by s chip) (c.block-played.ensures.answer ∙ ap (λ (t : Bool). block_step t (length out) chip) ok) ∙ blocked-by (length out) chip; buffer = c.block-played.ensures.buffer ∙ ap (λ (t : Bool). buffer_left t out chip) ok ∙ buffer-by out chip }
