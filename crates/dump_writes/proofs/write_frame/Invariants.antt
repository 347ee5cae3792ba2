-- `dump_writes::write_frame` meets its contract: what is left to write gives R0 to R12 (`Writing`). Assumes nothing.
use Rattle.dump_writes.proofs.Writing.{Writing}
use Rattle.dump_writes.proofs.write_frame.Given as goal

abbrev pub invariant-loop-register : goal.invariant-loop-register
invariant-loop-register l = Writing l.value l.bytes l.initial.next l.next l.register
