-- `envelope::Envelope::set_shape` meets its contract: a restart at the shape's offset. Assumes nothing.
use mathlib.Core.Path.{◌∙◌}
use Rattle.envelope.proofs.Envelope.set_shape.Goals as goal

pub returns : goal.returns
returns c = c.trigger.ensures ∙ rw (← c.shape_offset-offset.ensures)
