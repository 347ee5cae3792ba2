-- `Pieces::write_out` asks for the output byte after byte, and ends (`Writing`). Assumes nothing.
use Rattle.std.proofs.Common.{arith, refl, ◌∙◌}
use Rattle.laws_pieces.proofs.Writing.{writing_start, writing-ends, piece-next, writing-within, writing-on, writing-less}
use Rattle.pieces_out.proofs.Pieces.write_out.Goals as goal

pub loop-bytes-init : goal.loop-bytes-init
loop-bytes-init g c = (writing_start c.requires.stands c.requires.start, refl)

pub next_piece-n-requires-clause-stands : goal.next_piece-n-requires-clause-stands
next_piece-n-requires-clause-stands g c = (c.loop-bytes.invariant.0).stands

pub returns-then-n-eq0 : goal.returns-then-n-eq0
returns-then-n-eq0 g c =
    let ensures = c.next_piece-n.ensures in
    writing-ends c.loop-bytes.invariant.0 (ensures.last c.if-n-eq0.true)

pub write_next-requires : goal.write_next-requires
write_next-requires g c =
    let whole = c.next_piece-n.ensures.whole ∙ c.loop-bytes.invariant.1 in
    rw whole (piece-next c.loop-bytes.invariant.0 c.next_piece-n.new.self _ c.next_piece-n.ensures.within c.next_piece-n.ensures.part)

pub overflow_add-bytes : goal.overflow_add-bytes
overflow_add-bytes g c =
    omega (arith, writing-within c.loop-bytes.invariant.0 c.next_piece-n.new.self _ c.next_piece-n.ensures.within c.next_piece-n.ensures.part, g.met.Self.Pieces.short c.args.self.now)

pub loop-bytes-smaller : goal.loop-bytes-smaller
loop-bytes-smaller g c = writing-less c.loop-bytes.invariant.0 c.next_piece-n.new.self _ c.next_piece-n.ensures.within c.next_piece-n.ensures.part c.if-n-eq0.false

pub loop-bytes-preserved : goal.loop-bytes-preserved
loop-bytes-preserved g c = (
  writing-on c.loop-bytes.invariant.0 c.next_piece-n.new.self _ c.next_piece-n.ensures.within c.next_piece-n.ensures.part c.next_piece-n.ensures.stands,
  c.next_piece-n.ensures.whole ∙ c.loop-bytes.invariant.1,
)
