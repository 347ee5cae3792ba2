-- `stored_bytes::mark` meets its contract. Assumes nothing.
use Rattle.stored_bytes.proofs.Marks.{mark-bit}
use Rattle.stored_bytes.proofs.mark.Goals as goal

pub returns : goal.returns
returns c = rw (mark-bit c.args.register c.requires)
