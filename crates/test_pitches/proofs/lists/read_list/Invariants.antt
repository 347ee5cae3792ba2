-- `lists::read_list` is safe: each line fills a place. Assumes nothing.
use Rattle.std.proofs.Common.{◌≤◌}
use Rattle.test_pitches.proofs.lists.read_list.Given as goal

abbrev pub invariant-loop-place : goal.invariant-loop-place
invariant-loop-place g l = l.count ≤ l.place-index
