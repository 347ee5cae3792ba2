-- `steps_queue::flush_pending_writes` meets its contract: the record's test says which case holds, and what passed it can be flushed. Assumes nothing.
use native.Mathlib.Omega.{arith}
use borrow.Author.Tests.{not-false}
use Rattle.laws.proofs.Tests.{tests, calls}
use Rattle.queue.specs.Waiting.{QueueInRange, ring}
use Rattle.steps_queue.specs.QueueSteps.{flush_step}
use Rattle.steps_queue.proofs.Flushed.{flush-yes}
use mathlib.Core.Bool.{not}
use mathlib.Core.Path.{ap}
use Rattle.steps_queue.proofs.flush_pending_writes.Goals as goal

pub returns-then-not-ok : goal.returns-then-not-ok
unfolding flush_step
returns-then-not-ok c = search (tests, calls)

pub overflow_add-past : goal.overflow_add-past
overflow_add-past c = let waits : let a = c.args in QueueInRange (ring a.stamps.now a.registers.now a.values.now a.head a.count) = c.requires (not-false _ (ap not c.if-not-ok.false)) in let q = waits in omega (arith, q.head, q.count)

pub effects-told-requires : goal.effects-told-requires
effects-told-requires c = let waits : let a = c.args in QueueInRange (ring a.stamps.now a.registers.now a.values.now a.head a.count) = c.requires (not-false _ (ap not c.if-not-ok.false)) in let q = waits in (q.head, q.count)

pub flush-after-requires : goal.flush-after-requires
flush-after-requires c = let waits : let a = c.args in QueueInRange (ring a.stamps.now a.registers.now a.values.now a.head a.count) = c.requires (not-false _ (ap not c.if-not-ok.false)) in waits

pub returns : goal.returns
returns c = flush-yes _ _ _ (ap not c.if-not-ok.false) c.effects-told.ensures c.flush-after.ensures
