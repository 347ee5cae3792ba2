-- `text_lines::line_at` meets its contract: std's search finds the line's end (`Seeking`). Assumes nothing.
use mathlib.Core.Path.{refl, sym, ap, ◌∙◌}
use Rattle.std.proofs.Common.{rules}
use borrow.Author.Tests.{tests}
use Rattle.std.proofs.lemmas.Iterator.{YieldsList-from_slice}
use Rattle.std.proofs.lemmas.Iterator.Search.{position_from_yields_List}
use Rattle.text_lines.proofs.Seeking.{is_lf, rest-is, found, none}
use Rattle.text_lines.proofs.line_at.Goals as goal

pub returns-in-Some : goal.returns-in-Some
returns-in-Some c =
    found c.args.text.now c.args.at (ap (λ x. x.now) c.unwrap_or-rest.ensures ∙ rest-is c.args.text.now c.args.at _ _ c.get.ensures.lookup.0 refl)
    (sym (position_from_yields_List is_lf _ _ _ c.position.ensures.ran (YieldsList-from_slice c.unwrap_or-rest.result.now cc) (λ x b q k. search (rules, tests))) ∙ c.in-Some.is)

pub returns-in-None : goal.returns-in-None
returns-in-None c =
    none c.args.text.now c.args.at (ap (λ x. x.now) c.unwrap_or-rest.ensures ∙ rest-is c.args.text.now c.args.at _ _ c.get.ensures.lookup.0 refl)
    (sym (position_from_yields_List is_lf _ _ _ c.position.ensures.ran (YieldsList-from_slice c.unwrap_or-rest.result.now cc) (λ x b q k. search (rules, tests))) ∙ c.in-None.is)
