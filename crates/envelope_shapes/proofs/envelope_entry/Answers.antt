-- `envelope_shapes::envelope_entry` meets its contract: the bits are those of the row's own shape, and the place is 32k + j. Assumes nothing.
use mathlib.Core.Path.{◌∙◌}
use native.Mathlib.Nat.{div-one}
use Rattle.envelope_shapes.specs.Shapes.{shape_entry, envelope_entry}
use Rattle.envelope_shapes.proofs.envelope_entry.Goals as goal

pub returns : goal.returns
unfolding envelope_entry shape_entry
returns c = c.by_bits.ensures ∙ rw (c.first_of_row-shape.ensures, div-one)
