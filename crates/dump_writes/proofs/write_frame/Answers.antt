-- `dump_writes::write_frame` meets its contract: what is left to write gives R0 to R12 (`Writing`). Assumes nothing.
use Rattle.dump_writes.proofs.Writing.{writing-on, ends-ff, ends-other}
use Rattle.dump_writes.proofs.write_frame.Goals as goal

pub loop-register-preserved : goal.loop-register-preserved
loop-register-preserved c = search writing-on

pub returns-then-bytes : goal.returns-then-bytes
returns-then-bytes c = search ends-ff

pub returns : goal.returns
returns c = search ends-other
