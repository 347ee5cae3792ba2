-- `Pieces::write_out` stands between two writes, with the rest to hand out (`Writing`). Assumes nothing.
use Rattle.std.proofs.Common.{◌≡◌, length}
use Rattle.laws_pieces.proofs.Writing.{Writing}
use Rattle.pieces_out.proofs.Pieces.write_out.Given as goal

abbrev pub invariant-loop-bytes : goal.invariant-loop-bytes
invariant-loop-bytes g l =
    Writing g.Self.Pieces.stands g.Self.Pieces.rest (g.Self.Pieces.whole l.initial.self) l.self l.bytes
    × (g.Self.Pieces.whole l.self ≡ g.Self.Pieces.whole l.initial.self)

abbrev pub decreases-loop-bytes : goal.decreases-loop-bytes
decreases-loop-bytes g l = length (g.Self.Pieces.rest l.self)
