-- `output_lines::put_refusal` meets its contract: the line is put part by part into 32 bytes (`Saying`), and from there. Assumes nothing.
use native.Mathlib.Omega.{arith}
use Rattle.output_lines.specs.Lines.{refusal_text}
use Rattle.output_lines.proofs.Saying.{Said, refusal-said, said_put}
use Rattle.output_lines.proofs.put_refusal.Goals as goal
use Rattle.output_lines.proofs.put_refusal.Goals.{After-put_number-n}

whole : (c : After-put_number-n) → Said (refusal_text c.args.no c.args.line) c.put_number-n.result c.put_number-n.new.out
whole c =
    refusal-said _ _ (omega arith) (omega arith) (c.put_bytes-number.ensures.place, c.put_bytes-number.ensures.text)
    (c.put_number-space.ensures.place, c.put_number-space.ensures.text) (c.put_bytes-value.ensures.place, c.put_bytes-value.ensures.text)
    (c.put_number-n.ensures.place, c.put_number-n.ensures.text)

pub slice_bounds-bytes-end : goal.slice_bounds-bytes-end
slice_bounds-bytes-end c = (whole (goal.at.slice_bounds-bytes-end c).After-put_number-n).room

pub slice_bounds-put_bytes-end-3 : goal.slice_bounds-put_bytes-end-3
slice_bounds-put_bytes-end-3 c = (whole (goal.at.slice_bounds-put_bytes-end-3 c).After-put_number-n).long

pub returns : goal.returns
returns c =
    let both = said_put _ _ (whole (goal.at.returns c).After-put_number-n) (c.put_bytes.ensures.place, c.put_bytes.ensures.text) in
    record { place = both.0; text = both.1 }
