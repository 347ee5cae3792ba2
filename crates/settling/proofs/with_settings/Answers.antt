-- `settling::with_settings` meets its contract. Assumes nothing.
use Rattle.settling.specs.Settling.{with_settings}
use Rattle.settling.proofs.with_settings.Goals as goal

pub returns : goal.returns
unfolding with_settings
returns c = rw c.generators_with-generators.ensures
