-- `capture_steps::give_last_line` meets its contract: a last line fits (`Giving`). Assumes nothing.
use native.Mathlib.Omega.{arith}
use Rattle.capture_output.proofs.Saying.{last-few}
use Rattle.capture_steps.proofs.Giving.{line-given}
use Rattle.capture_steps.proofs.give_last_line.Goals as goal

pub returns : goal.returns
returns c = let both = line-given _ _ _ c.requires (last-few c.args.no c.args.player.verdict.writes c.args.left (omega arith) (omega arith) (omega arith)) c.put_last_line-length.ensures.place c.put_last_line-length.ensures.text in record { answer = both.0; buffer = both.1 }
