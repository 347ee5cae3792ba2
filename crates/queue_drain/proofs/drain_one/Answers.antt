-- `queue_drain::drain_one` meets its contract: where the first write is not due, a drain changes nothing. Assumes nothing.
use mathlib.Core.Path.{sym}
use native.Mathlib.Omega.{arith}
use Rattle.queue_drain.proofs.Resting.{drain-late, drain-none}
use Rattle.queue_drain.proofs.Draining.{drained}
use Rattle.queue_drain.proofs.drain_one.Goals as goal

pub returns-then-count-eq0 : goal.returns-then-count-eq0
returns-then-count-eq0 c = drained (sym (drain-none _ _ _ c.requires c.if-count-eq0.true))

pub returns-then-stamps-head : goal.returns-then-stamps-head
returns-then-stamps-head c = drained (sym (drain-late _ _ _ c.requires (omega (arith, c.if-count-eq0.false)) c.if-stamps-head.true))
