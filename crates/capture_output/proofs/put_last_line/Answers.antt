-- `capture_output::put_last_line` meets its contract: what is left, or the refused write's line. Assumes nothing.
use Rattle.output_lines.specs.Lines.{left_text, refusal_text}
use Rattle.output_lines.proofs.Saying.{put-accepted, put_refused}
use Rattle.capture_output.specs.Ends.{line_of, last_line}
use Rattle.capture_output.proofs.put_last_line.Goals as goal

pub returns-then-no-eq-ACCEPTED : goal.returns-then-no-eq-ACCEPTED
unfolding last_line
returns-then-no-eq-ACCEPTED c = let a = c.args in let both = put-accepted _ a.no (left_text a.left) _ c.if-no-eq-ACCEPTED.true (c.put_left.ensures.place, c.put_left.ensures.text) in record { place = both.0; text = both.1 }

pub returns : goal.returns
unfolding last_line
returns c = let a = c.args in let both = put_refused _ a.no _ (refusal_text a.no (line_of a.writes a.left)) c.if-no-eq-ACCEPTED.false (rw c.line_of.ensures at c.put_refusal.ensures.place, rw c.line_of.ensures at c.put_refusal.ensures.text) in record { place = both.0; text = both.1 }
