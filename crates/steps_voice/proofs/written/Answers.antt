-- `steps_voice::written` meets its contract: the write's effect. Assumes nothing.
use Rattle.steps_voice.proofs.written.Goals as goal

pub returns : goal.returns
returns c = rw c.effect_of-effect.ensures
