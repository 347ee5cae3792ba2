-- A refused call answers levels 0, which the code writes by their bits. Assumes nothing.
use Rattle.std.proofs.Common.{rules}
use lib.Ieee.{of_bits, of_int}
use Rattle.steps_channels.specs.ChannelSteps.{outputs_said}
use Rattle.steps_channels.proofs.get_channel_outputs.Goals as goal

pub returns-then-not-ok : goal.returns-then-not-ok
unfolding outputs_said of_bits of_int
returns-then-not-ok c = search rules
