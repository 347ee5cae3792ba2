-- `capture_output::put_first_line` meets its contract: the number of words or a refusal, as the check says. Assumes nothing.
use native.Mathlib.Omega.{arith}
use Rattle.output_lines.specs.Lines.{refusal_text, total_text}
use Rattle.output_lines.proofs.Saying.{put-accepted, put_refused}
use Rattle.capture_output.specs.Ends.{first_line}
use Rattle.capture_output.proofs.Saying.{first-few}
use Rattle.capture_output.proofs.put_first_line.Goals as goal

pub returns-then-verdict-eq-ACCEPTED : goal.returns-then-verdict-eq-ACCEPTED
unfolding first_line
returns-then-verdict-eq-ACCEPTED c =
    let v = c.args.verdict in
    let both = put-accepted _ v.no (total_text v.words) _ c.if-verdict-eq-ACCEPTED.true (c.put_total.ensures.place, c.put_total.ensures.text) in
    record { place = both.0; text = both.1; few = first-few v (omega arith) (omega arith) (omega arith) }

pub returns : goal.returns
unfolding first_line
returns c =
    let v = c.args.verdict in
    let both = put_refused _ v.no _ (refusal_text v.no v.line) c.if-verdict-eq-ACCEPTED.false (c.put_refusal.ensures.place, c.put_refusal.ensures.text) in
    record { place = both.0; text = both.1; few = first-few v (omega arith) (omega arith) (omega arith) }
