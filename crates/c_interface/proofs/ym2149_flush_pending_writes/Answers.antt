use Rattle.c_interface.proofs.Flushing.{flush-left, flush-told}
use Rattle.c_interface.proofs.ym2149_flush_pending_writes.Goals as goal

pub returns-clause-answer : goal.returns-clause-answer
returns-clause-answer c = rw (c.flush_pending_writes-flushed.ensures, c.in_range-ok.ensures.answer) (flush-told c.args.chip.now)

pub returns-clause-left : goal.returns-clause-left
returns-clause-left c = rw (c.keep_drums.ensures, c.flush_pending_writes-flushed.ensures, c.lent_drums.ensures, c.in_range-ok.ensures.answer) (flush-left c.args.chip.now)
