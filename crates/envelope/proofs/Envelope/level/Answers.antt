-- `envelope::Envelope::level` meets its contract: the lookup's promise is the rule. Assumes nothing.
use mathlib.Core.Path.{ap, ◌∙◌}
use Rattle.envelope_shapes.specs.Shapes.{envelope_entry}
use Rattle.envelope.specs.Envelope.{envelope_level}
use Rattle.envelope.proofs.Places.{placed}
use Rattle.envelope.proofs.Envelope.level.Goals as goal

pub returns : goal.returns
unfolding envelope_level
returns c = c.envelope_entry.ensures ∙ ap (envelope_entry c.args.self.offset) (placed _ c.requires.position c.place.ensures)
