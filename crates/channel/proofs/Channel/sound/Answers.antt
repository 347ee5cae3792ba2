-- `channel::Channel::sound` meets its contract: it joins its three callees' promises, and both level indices are below 32. Assumes nothing.
use Rattle.channel.specs.Channel.{sounded}
use Rattle.levels.proofs.Laws.{used-lt, gated-lt}
use Rattle.channel.proofs.Channel.sound.Goals as goal

pub compute_output-requires : goal.compute_output-requires
compute_output-requires c = rw (c.gated_level-gated.ensures, c.level_used-ungated.ensures) (search (used-lt, gated-lt))

pub returns : goal.returns
unfolding sounded
returns c = rw (c.compute_output.ensures, c.gated_level-gated.ensures, c.level_used-ungated.ensures)
