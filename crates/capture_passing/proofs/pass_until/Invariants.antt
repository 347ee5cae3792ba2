-- `pass_until` meets its contract: the invariant and its moves are laws of `proofs/Walking.antt`. Assumes nothing.
use Rattle.capture_passing.proofs.Walking.{Walking}
use Rattle.capture_passing.proofs.pass_until.Given as goal

abbrev pub invariant-loop-k : goal.invariant-loop-k
invariant-loop-k l = Walking l.text l.end l.writes l.at-2 l.initial.chip l.chip l.at l.k
