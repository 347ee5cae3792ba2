-- `generators::Generators::apply_pending_resets` meets its contract. Assumes nothing.
use Rattle.generators.specs.Generators.{tones_released}
use Rattle.generators.proofs.Generators.apply_pending_resets.Goals as goal

pub returns : goal.returns
unfolding tones_released
returns c = rw (c.apply_pending_reset-c.ensures, c.apply_pending_reset-b.ensures, c.apply_pending_reset-a.ensures)
