-- `read_header` is safe: each byte fills a place. Assumes nothing.
use Rattle.std.proofs.Common.{◌≤◌}
use Rattle.test_dumps.proofs.read_header.Given as goal

abbrev pub invariant-loop-place : goal.invariant-loop-place
invariant-loop-place g l = l.length ≤ l.place-index
