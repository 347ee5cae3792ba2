-- Each piece is the next part of what is yet to be handed out (`Standing`), so together they are the whole. Assumes nothing.
use mathlib.Core.List.{List}
use Prim.Native.Nat.{ℕ}
use Rattle.dump_player.specs.Player.{start_of}
use Rattle.laws_pieces.proofs.Pieces.{Gives, hands_out}
use Rattle.laws_player.specs.Claims.{giver, Claims}
use Rattle.laws_player.proofs.Standing.{Stands, rest_of, start-stands, rest-start}
use Rattle.laws_player.proofs.Beginning.{same-beginning}
use Rattle.laws_player.proofs.Piece.{piece-stands, rest-piece, piece-empty, piece-fits, piece-length}

-- the player gives
pub gives : (text : List ℕ) → Gives (giver text) (Stands text) (rest_of text) 32
gives text = record { part = rest-piece text; stands = piece-stands text; last = piece-empty text; within = piece-fits text }

pub claims : (text : List ℕ) → Claims text
claims text =
    record {
      pieces = λ rooms roomy. rw (← rest-start text) (hands_out (gives text) rooms roomy (start_of text) (start-stands text));
      counts = piece-length text;
      beginning = same-beginning text;
    }
