-- `calls_effects::set_timer_irq_state` meets its contract: its step's, on parts of the chip. Assumes nothing.
use Rattle.calls_effects.proofs.Stepped.{flags-set}
use Rattle.calls_effects.proofs.set_timer_irq_state.Goals as goal

pub returns : goal.returns
returns c = rw (c.with_voice-after.ensures, c.set_timer_irq_state-r.ensures, c.in_range-ok.ensures) (flags-set _ _)
