-- `calls_effects::trigger_envelope` meets its contract: its step's, on parts of the chip. Assumes nothing.
use Rattle.calls_effects.proofs.Stepped.{triggers-set}
use Rattle.calls_effects.proofs.trigger_envelope.Goals as goal

pub returns : goal.returns
returns c = rw (c.with_voice-after.ensures, c.trigger_envelope-r.ensures, c.in_range-ok.ensures) (triggers-set _)
