-- `notes_text::period_line` meets its contract: a pitch past 32 bits is refused as the highest of 32 bits is. Assumes nothing.
use native.Mathlib.Omega.{arith}
use Rattle.std.proofs.lemmas.Grind.{common_steps}
use Rattle.notes_text.specs.Checked.{period_line}
use Rattle.notes_text.proofs.Noting.{high-same}
use Rattle.notes_text.proofs.period_line.Goals as goal

pub returns : goal.returns
unfolding period_line
returns c = grind (arith, common_steps, high-same)
