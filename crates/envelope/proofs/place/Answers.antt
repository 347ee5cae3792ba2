-- `envelope::place` meets its contract: a position plus 64 is a place from 0 to 127. Assumes nothing.
use mathlib.Core.Path.{ap}
use lib.IntN.{nat_abs}
use Rattle.envelope.proofs.Places.{place-fits, place-back, place-cast}
use Rattle.envelope.proofs.place.Goals as goal

pub overflow_add-result : goal.overflow_add-result
overflow_add-result c = search place-fits

pub overflow_cast-result : goal.overflow_cast-result
overflow_cast-result c = place-cast c.args.position c.requires _ (place-back c.args.position c.requires)

pub returns : goal.returns
returns c = ap nat_abs (place-back c.args.position c.requires)
