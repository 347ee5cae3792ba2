-- `dump_player::next_piece` meets its contract: a law of `Giving` for each return. Assumes nothing.
use Rattle.dump_player.proofs.Giving.{too_short, words-piece, first_piece_lem}
use Rattle.dump_player.proofs.next_piece.Goals as goal

pub returns-then-out-lt-LEAST_ROOM : goal.returns-then-out-lt-LEAST_ROOM
returns-then-out-lt-LEAST_ROOM c = let both = too_short _ _ _ c.if-out-lt-LEAST_ROOM.true in record { answer = both.0; buffer = both.1 }

pub returns-then-progress : goal.returns-then-progress
returns-then-progress c = let both = words-piece _ c.args.out.now _ c.if-out-lt-LEAST_ROOM.false c.if-progress.true c.ready.ensures c.give_words.ensures.answer c.give_words.ensures.buffer in record { answer = both.0; buffer = both.1 }

pub returns : goal.returns
returns c = let both = first_piece_lem _ _ _ c.if-out-lt-LEAST_ROOM.false c.if-progress.false c.give_first_line.ensures.answer c.give_first_line.ensures.buffer in record { answer = both.0; buffer = both.1 }
