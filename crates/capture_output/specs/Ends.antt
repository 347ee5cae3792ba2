-- The first and the last line of what is printed of a capture. 02, request 01. Assumes nothing.
use Rattle.std.specs.Prelude.{ℕ, ◌+◌, ◌-◌, ◌*◌, cond, List, eqb}
use Rattle.refusals.specs.Numbers.{accepted}
use Rattle.output_lines.specs.Lines.{left_text, refusal_text, total_text}
use Rattle.capture.specs.declared.Captured.{Captured}

-- "Output is as `playdump`": a refusal, or the number of words asked
unfoldable pub first_line : Captured → List ℕ
first_line v = cond (eqb v.no accepted) (total_text v.words) (refusal_text v.no v.line)

-- write k, the first being 0, has its `at=` on line 5 + 3 × k; with `left` of `writes` to go, that is the first of those
abbrev pub line_of : ℕ → ℕ → ℕ
line_of writes left = 5 + 3 * (writes - left)

-- "with a last line `left=K` for writes never reached"; "4 with the write's `at=` line, printed last in place of `left`"
unfoldable pub last_line : ℕ → ℕ → ℕ → List ℕ
last_line number writes left = cond (eqb number accepted) (left_text left) (refusal_text number (line_of writes left))
