-- `tone::Tone::tick` meets its contract: it is the step, with the counter back in its place. Assumes nothing.
use Rattle.tone.specs.Tone.{tone_tick}
use Rattle.tone.proofs.Tone.tick.Goals as goal

pub returns : goal.returns
unfolding tone_tick
returns c = rw c.tone_step-step.ensures.0
