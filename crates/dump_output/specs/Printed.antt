-- The dump player's first line. 01, "The dump player". Assumes nothing.
use Rattle.std.specs.Prelude.{ℕ, ◌*◌, cond, List, eqb}
use Rattle.refusals.specs.Numbers.{accepted}
use Rattle.output_lines.specs.Lines.{refusal_text, total_text}
use Rattle.dump.specs.declared.Verdict.{Verdict}

-- A refusal prints only `refused=R line=L`. The output's `words=` is the total over all frames.
unfoldable pub first_line : Verdict → List ℕ
first_line v = cond (eqb v.no accepted) (total_text (v.words * v.frames)) (refusal_text v.no v.line)
