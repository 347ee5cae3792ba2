-- `capture_steps::give_first_line` meets its contract: a first line fits (`Giving`). Assumes nothing.
use Rattle.capture_steps.proofs.Giving.{line-given}
use Rattle.capture_steps.proofs.give_first_line.Goals as goal

pub returns : goal.returns
returns c = let both = line-given _ _ _ c.requires c.put_first_line-length.ensures.few c.put_first_line-length.ensures.place c.put_first_line-length.ensures.text in record { answer = both.0; buffer = both.1 }
