-- `calls_channels::set_drum_sample_override` meets its contract: its step's, on parts of the chip. Assumes nothing.
use Rattle.calls_channels.proofs.Stepped.{drums-set}
use Rattle.calls_channels.proofs.set_drum_sample_override.Goals as goal

pub returns : goal.returns
returns c = rw (c.with_channels-after.ensures, c.with_drum-c.ensures, c.with_drum-b.ensures, c.with_drum-a.ensures, c.set_drum_sample_override-r.ensures, c.in_range-ok.ensures) (drums-set _ _ _)
