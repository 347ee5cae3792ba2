-- `voice_range::bytes_in` meets its contract: a law of `proofs/Bytes.antt`. Assumes nothing.
use borrow.Author.Rules.{rules}
use Rattle.voice_range.proofs.Bytes.{bytes-in}
use Rattle.voice_range.proofs.bytes_in.Goals as goal

pub returns : goal.returns
returns c = bytes-in _ _ (search rules) (search rules)
