-- A piece of the player is one of `Pieces` (`Played`). Assumes nothing.
use Rattle.playcapture.proofs.Played.{played-stands, played-last, played-within, played-part}
use Rattle.playcapture.proofs.PlayingPieces.next_piece.Goals as goal

pub returns-clause-within : goal.returns-clause-within
returns-clause-within c = played-within _ c.requires.stands c.requires.room c.next_piece-piece.ensures.answer c.next_piece-piece.ensures.buffer

pub returns-clause-part : goal.returns-clause-part
returns-clause-part c = played-part _ c.requires.stands c.requires.room c.next_piece-piece.ensures.answer c.next_piece-piece.ensures.buffer

pub returns-clause-last : goal.returns-clause-last
returns-clause-last c = played-last _ c.requires.stands c.requires.room c.next_piece-piece.ensures.answer

pub returns-clause-stands : goal.returns-clause-stands
returns-clause-stands c = played-stands _ c.requires.stands c.requires.room c.next_piece-piece.ensures.answer
