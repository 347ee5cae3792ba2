-- `capture_body::writes_read` meets its contract: what is left gives the whole (`Walking`). Assumes nothing.
use Rattle.capture_body.proofs.Walking.{Walking}
use Rattle.capture_body.proofs.writes_read.Given as goal

abbrev pub invariant-loop-k : goal.invariant-loop-k
invariant-loop-k l = Walking l.text l.writes l.body l.k l.before l.at
