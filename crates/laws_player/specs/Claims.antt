-- What the player hands out. 01, "The dump player". Assumes nothing.
use Rattle.std.specs.Prelude.{List, ◌≡◌, ℕ, ◌≤◌, length, take}
use Rattle.dump_input.specs.Enough.{enough}
use Rattle.dump_player.specs.declared.Player.{Player}
use Rattle.dump_player.specs.Player.{start_of, least_room, bytes_of, piece_of}
use Rattle.dump_played.specs.Whole.{printed}
use Rattle.laws_pieces.specs.Pieces.{Giver, Rooms, HandsOut}

-- the player of a text, as one that hands out pieces
abbrev pub giver : List ℕ → Giver Player
giver text = record { piece = bytes_of text; next = λ room p. (piece_of text room p).player }

-- no buffer is shorter than the least
abbrev pub Roomy : Rooms → Type 0
Roomy rooms = (i : ℕ) → least_room ≤ rooms i

-- Of every text, refused ones too.
pub record Claims (text : List ℕ) : Type 0 where
  -- From the start, whatever buffers are lent, the pieces are the whole output, byte for byte.
  pub pieces : (rooms : Rooms) → Roomy rooms → HandsOut (giver text) rooms (start_of text) (printed text)
  -- The length that comes with a piece is the piece's, wherever the player stands.
  pub counts : (room : ℕ) (p : Player) → (piece_of text room p).length ≡ length (bytes_of text room p)
  -- A dump longer than 65,536 bytes is refused, whatever follows: its first bytes give the same output.
  pub beginning : printed (take enough text) ≡ printed text
