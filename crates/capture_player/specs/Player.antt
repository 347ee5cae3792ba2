-- The next piece of the output, for a lent buffer. 02, request 01. Assumes nothing.
use Rattle.std.specs.Prelude.{List, ℕ, length}
use Rattle.laws_pieces.specs.Pieces.{Giver}
use Rattle.laws_pieces.specs.Filling.{filling}
use Rattle.capture_steps.specs.declared.Player.{Player}
use Rattle.capture_steps.specs.declared.Piece.{Piece}
use Rattle.capture_steps.specs.Steps.{step_lines, step_of}

-- the player of a text, as one that hands out lines step by step
abbrev pub stepper : List ℕ → Giver Player
stepper text = record { piece = step_lines text; next = λ room p. (step_of text room p).player }

-- a piece is as many steps as there is room for
abbrev pub giver : List ℕ → Giver Player
giver text = filling (stepper text)

unfoldable pub bytes_of : List ℕ → ℕ → Player → List ℕ
bytes_of text room p = (giver text).piece room p

unfoldable pub piece_of : List ℕ → ℕ → Player → Piece
piece_of text room p = record { player = (giver text).next room p; length = length (bytes_of text room p) }
