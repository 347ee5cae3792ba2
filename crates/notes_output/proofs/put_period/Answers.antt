-- `notes_output::put_period` meets its contract: its two parts, one after the other (`period-put`). Assumes nothing.
use Rattle.notes_output.proofs.Telling.{period-put}
use Rattle.notes_output.proofs.put_period.Goals as goal

pub returns : goal.returns
returns c = let both = period-put _ _ _ c.requires (c.put_bytes-number.ensures.place, c.put_bytes-number.ensures.text) (c.put_number.ensures.place, c.put_number.ensures.text) in record { place = both.0; text = both.1 }
