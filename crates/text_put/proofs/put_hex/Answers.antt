-- `text_put::put_hex` meets its contract: the last digits stand in the buffer (`Hexing`). Assumes nothing.
use Rattle.text_put.proofs.Hexing.{hexing-on, hexing-ends}
use Rattle.text_put.proofs.put_hex.Goals as goal

pub loop-i-preserved : goal.loop-i-preserved
loop-i-preserved c = search hexing-on

pub returns : goal.returns
returns c = let both = hexing-ends _ c.loop-i.invariant c.loop-i-test.false in record { place = both.0; text = both.1 }
