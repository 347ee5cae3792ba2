-- `dump_output::put_first_line` meets its contract: a total or a refusal, as the verdict says, which has room in 32 bytes (`Saying`). Assumes nothing.
use Prim.Native.Nat.{◌*◌}
use native.Mathlib.Omega.{arith}
use Rattle.output_lines.specs.Lines.{refusal_text, total_text}
use Rattle.output_lines.proofs.Saying.{put-accepted, put_refused}
use Rattle.dump_output.specs.Printed.{first_line}
use Rattle.dump_output.proofs.Saying.{first-few, total-fits}
use Rattle.dump_output.proofs.put_first_line.Goals as goal

pub overflow_mul-verdict : goal.overflow_mul-verdict
overflow_mul-verdict c = let v = c.args.verdict in let h = total-fits v.words v.frames (omega arith) (omega arith) in omega (arith, h)

pub returns-then-verdict-eq-ACCEPTED : goal.returns-then-verdict-eq-ACCEPTED
unfolding first_line
returns-then-verdict-eq-ACCEPTED c =
    let v = c.args.verdict in
    let both = put-accepted _ v.no (total_text (v.words * v.frames)) _ c.if-verdict-eq-ACCEPTED.true (c.put_total.ensures.place, c.put_total.ensures.text) in
    record { place = both.0; text = both.1; few = first-few v (omega arith) (omega arith) (omega arith) (omega arith) }

pub returns : goal.returns
unfolding first_line
returns c =
    let v = c.args.verdict in
    let both = put_refused _ v.no _ (refusal_text v.no v.line) c.if-verdict-eq-ACCEPTED.false (c.put_refusal.ensures.place, c.put_refusal.ensures.text) in
    record { place = both.0; text = both.1; few = first-few v (omega arith) (omega arith) (omega arith) (omega arith) }
