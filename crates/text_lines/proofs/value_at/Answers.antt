-- `text_lines::value_at` meets its contract: the laws of a line's value. Assumes nothing.
use mathlib.Core.Path.{refl, ap, ◌∙◌}
use Rattle.text_lines.proofs.Values.{line_after, line-within, value-found, value-missing}
use Rattle.text_lines.proofs.value_at.Goals as goal

pub returns-then-not-line : goal.returns-then-not-line
returns-then-not-line c = search value-missing

pub slice_bounds-strip_prefix-count : goal.slice_bounds-strip_prefix-count
slice_bounds-strip_prefix-count c = search line_after

pub slice_bounds-strip_prefix-start : goal.slice_bounds-strip_prefix-start
slice_bounds-strip_prefix-start c = search line_after

pub slice_bounds-strip_prefix-end : goal.slice_bounds-strip_prefix-end
slice_bounds-strip_prefix-end c = search line-within

pub returns : goal.returns
returns c =
    ap (λ x. x.now) c.unwrap_or.ensures
    ∙ value-found c.args.text.now c.args.at c.line_at-line.ensures c.if-not-line.false c.args.key.now _ _ c.strip_prefix.ensures.cases refl
