-- `text_fields::all_hex` meets its contract: std's test of every byte is the run's (`every-hex`). Assumes nothing.
use mathlib.Core.Path.{◌∙◌}
use lib.Dec.{leb}
use Prim.Native.Nat.{ℕ}
use Rattle.std.proofs.lemmas.Iterator.{YieldsList-from_slice}
use Rattle.std.proofs.lemmas.Iterator.Search.{all_from_yields_List}
use Rattle.std.proofs.Common.{rules}
use Rattle.text_fields.specs.Fields.{hex_value}
use Rattle.text_fields.proofs.Hexes.{digit-some, every-hex}
use Rattle.text_fields.proofs.all_hex.Goals as goal

pub returns : goal.returns
returns c =
    all_from_yields_List (λ (b : ℕ). leb (hex_value b) 15) _ _ _ c.all.ensures.ran (YieldsList-from_slice c.args.s.now cc) (λ x b q k. search (rules, digit-some))
    ∙ every-hex c.args.s.now
