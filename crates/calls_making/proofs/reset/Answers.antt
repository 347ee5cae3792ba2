-- `calls_making::reset` meets its contract: the record's test says which case holds. Assumes nothing.
use mathlib.Core.Path.{◌∙◌}
use Rattle.laws.proofs.Tests.{on-no, on-yes}
use Rattle.calls_making.specs.Making.{reset_of, reset_call}
use mathlib.Core.Bool.{not}
use mathlib.Core.Path.{ap}
use Rattle.calls_making.proofs.reset.Goals as goal

pub returns-then-not-in_range : goal.returns-then-not-in_range
unfolding reset_call
returns-then-not-in_range c = on-no _ _ _ _ _ c.in_range.ensures (ap not c.if-not-in_range.true) c.refused.ensures

pub returns : goal.returns
unfolding reset_call reset_of
returns c = on-yes _ _ _ _ _ c.in_range.ensures (ap not c.if-not-in_range.false) (c.accepted.ensures ∙ rw (c.at_start.ensures, c.reset-channels.ensures, c.reset-voice.ensures))
