-- `calls_cycles::flush_pending_writes` meets its contract: its step's, on parts of the chip; what passes the record's test can be flushed. Assumes nothing.
use borrow.Author.Rules.{rules}
use mathlib.Core.Path.{sym, ◌∙◌}
use Rattle.chip.proofs.InRange.{Laid, passed}
use Rattle.calls_cycles.proofs.Stepped.{flush-set}
use Rattle.calls_cycles.proofs.flush_pending_writes.Goals as goal

pub flush_pending_writes-r-requires : goal.flush_pending_writes-r-requires
flush_pending_writes-r-requires c = λ ok.
    let laid : Laid c.args.chip = record { registers = search rules; stamps = search rules; numbers = search rules; values = search rules } in
    (passed laid (sym c.in_range-ok.ensures ∙ ok)).queue

pub returns : goal.returns
returns c = rw (c.flush_pending_writes-r.ensures, c.in_range-ok.ensures) (flush-set _)
