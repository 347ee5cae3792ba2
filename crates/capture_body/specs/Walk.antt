-- The writes of a capture, walked. 02, request 01: "then per write `at=` .., `port=` .., `value=` ..". Assumes nothing.
use Rattle.std.specs.Prelude.{ℕ, zero, suc, ◌+◌, cond, List, ltb, length, Result, Ok, Err}
use Rattle.refusals.specs.declared.Refusal.TheVariants.{BytesAfterTheEnd}
use Rattle.dump_clocks.specs.declared.LineRefused.{LineRefused}
use Rattle.capture_writes.specs.Writes.{lines_at, ◌>>=◌}

-- a write's refusal, at its line of the text
abbrev pub from_line : {A : Type 0} → ℕ → Result A LineRefused → Result A LineRefused
from_line line (Ok read) = Ok read
from_line line (Err refused) = Err (record { why = refused.why; line = line + refused.line })

-- each of three lines and held to the stamp before it; then 10 at the line after the last, 5 + 3 × writes
unfoldable pub writes_read : List ℕ → ℕ → ℕ → ℕ → ℕ → Result (Unit {0}) LineRefused
writes_read text zero line before at =
    cond (ltb at (length text)) (Err (record { why = BytesAfterTheEnd; line = line }))
    (Ok tt)
writes_read text (suc left) line before at = do
  lines ← from_line line (lines_at text before at)
  writes_read text left (line + 3) lines.write.stamp lines.next
