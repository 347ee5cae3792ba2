-- `calls_words::compute_next_sample` meets its contract: its step's answer, and the step's parts stored (`Sampling`). Assumes nothing.
use mathlib.Core.Path.{sym, ap, ◌∙◌}
use mathlib.Core.Bool.{Bool}
use borrow.Author.Rules.{rules}
use Rattle.chip.proofs.InRange.{Laid, passed}
use Rattle.steps_words.specs.declared.WordStep.{WordStep}
use Rattle.steps_words.specs.WordSteps.{word_step}
use Rattle.steps_words.proofs.Playable.{parts, playable}
use Rattle.calls_words.proofs.Sampling.{sampled_by, sampled-by}
use Rattle.calls_words.proofs.compute_next_sample.Goals as goal

pub compute_next_sample-word-requires : goal.compute_next_sample-word-requires
compute_next_sample-word-requires c = let laid : Laid c.args.chip = record { registers = search rules; stamps = search rules; numbers = search rules; values = search rules } in λ ok.
    playable (passed laid (sym c.in_range-ok.ensures ∙ ok))

pub returns : goal.returns
returns c = let chip = c.args.chip in
    ap (λ (w : WordStep). sampled_by w chip) (c.compute_next_sample-word.ensures ∙ ap (λ (ok : Bool). word_step ok (parts chip)) c.in_range-ok.ensures) ∙ sampled-by chip
