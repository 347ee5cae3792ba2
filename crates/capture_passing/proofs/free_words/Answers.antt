-- `free_words` meets its contract: the fewer of what is asked and what ends before the stamp. Assumes nothing.
use Rattle.capture_passing.proofs.Free.{all-free, fewer-free}
use Rattle.capture_passing.proofs.free_words.Goals as goal

pub returns-then-writes-eq0 : goal.returns-then-writes-eq0
returns-then-writes-eq0 c = all-free _ _ _ _ _ c.if-writes-eq0.true

pub returns : goal.returns
returns c = fewer-free _ _ _ _ _ c.if-writes-eq0.false c.stamp_at.ensures c.words_before.ensures (rw c.from.ensures at c.min.ensures)
