-- What the player of captures hands out. 02, request 01: "Output is as `playdump`". Assumes nothing.
use Rattle.std.specs.Prelude.{List, ◌≡◌, ℕ, ◌≤◌, length, take}
use Rattle.dump_input.specs.Enough.{enough}
use Rattle.capture_steps.specs.declared.Player.{Player}
use Rattle.capture_steps.specs.Steps.{start_of, least_room}
use Rattle.capture_player.specs.Player.{stepper, giver, bytes_of, piece_of}
use Rattle.capture_played.specs.Whole.{printed}
use Rattle.laws_pieces.specs.Pieces.{Rooms, HandsOut}

-- no buffer is shorter than the least
abbrev pub Roomy : Rooms → Type 0
Roomy rooms = (i : ℕ) → least_room ≤ rooms i

-- Of every text, refused ones too.
pub record Claims (text : List ℕ) : Type 0 where
  -- From the start, whatever buffers are lent, the pieces are the whole output, byte for byte.
  pub pieces : (rooms : Rooms) → Roomy rooms → HandsOut (giver text) rooms (start_of text) (printed text)
  -- So are the steps that a piece is made of, each into a buffer of its own.
  pub steps : (rooms : Rooms) → Roomy rooms → HandsOut (stepper text) rooms (start_of text) (printed text)
  -- The length that comes with a piece is the piece's, wherever the player stands.
  pub counts : (room : ℕ) (p : Player) → (piece_of text room p).length ≡ length (bytes_of text room p)
  -- A capture longer than 65,536 bytes is refused, whatever follows: its first bytes give the same output.
  pub beginning : printed (take enough text) ≡ printed text
