-- `text_put::put_decimal` meets its contract: the digits of `io::decimal` are those of `decimal_text`. Assumes nothing.
use native.Mathlib.Omega.{arith}
use Rattle.text_put.proofs.Putting.{decimal-put}
use Rattle.text_put.proofs.put_decimal.Goals as goal

pub returns : goal.returns
returns c = let both = decimal-put _ _ _ (omega arith) c.decimal-k.ensures.len c.decimal-k.ensures.digits c.put_bytes.ensures.place c.put_bytes.ensures.text in record { place = both.0; text = both.1 }
