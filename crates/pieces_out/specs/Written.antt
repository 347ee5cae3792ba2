-- What a writer of pieces writes. Assumes nothing.
use Rattle.std.specs.Prelude.{List, ◌≡◌, ℕ, length, take, drop}

-- The bytes are the whole's next ones, from a place on.
abbrev pub NextBytes : List ℕ → ℕ → List ℕ → Type 0
NextBytes whole place bytes = bytes ≡ take (length bytes) (drop place whole)
