-- `output_lines::put_named` meets its contract: the line is put part by part into 32 bytes (`Saying`), and from there. Assumes nothing.
use mathlib.Core.List.{◌++◌}
use native.Mathlib.Omega.{arith}
use Rattle.text_put.specs.Text.{number_text}
use Rattle.output_lines.proofs.Saying.{Said, named-said, said_put}
use Rattle.output_lines.proofs.put_named.Goals as goal
use Rattle.output_lines.proofs.put_named.Goals.{After-put_number-n}

whole : (c : After-put_number-n) → Said (c.args.name.now ++ number_text c.args.number 10) c.put_number-n.result c.put_number-n.new.out
whole c =
    named-said _ _ (omega arith) (omega arith) (c.put_bytes-value.ensures.place, c.put_bytes-value.ensures.text)
    (c.put_number-n.ensures.place, c.put_number-n.ensures.text)

pub slice_bounds-bytes-end : goal.slice_bounds-bytes-end
slice_bounds-bytes-end c = (whole (goal.at.slice_bounds-bytes-end c).After-put_number-n).room

pub slice_bounds-put_bytes-end : goal.slice_bounds-put_bytes-end
slice_bounds-put_bytes-end c = (whole (goal.at.slice_bounds-put_bytes-end c).After-put_number-n).long

pub returns : goal.returns
returns c =
    let both = said_put _ _ (whole (goal.at.returns c).After-put_number-n) (c.put_bytes.ensures.place, c.put_bytes.ensures.text) in
    record { place = both.0; text = both.1 }
