-- Handing out a list of bytes piece by piece, whatever makes the bytes. A giver stands somewhere (`S`); it is lent a buffer, puts a piece
-- there and stands elsewhere. Assumes nothing.
use Rattle.std.specs.Prelude.{List, [], ◌++◌, ◌≡◌, ℕ, zero, suc, ◌≤◌, ◌<◌, length}

-- For a buffer of some length: the piece, and where the giver stands then.
pub record Giver (S : Type 0) : Type 0 where
  pub piece : ℕ → S → List ℕ
  pub next : ℕ → S → S

-- the buffers' lengths, call by call; calls count from 0
abbrev pub Rooms : Type 0
Rooms = ℕ → ℕ

module _ {S : Type 0} (g : Giver S) (rooms : Rooms) (start : S) where
  -- where the giver stands before call i
  unfoldable pub before : ℕ → S
  before zero = start
  before (suc i) = g.next (rooms i) (before i)

  -- the piece of call i
  abbrev pub piece_at : ℕ → List ℕ
  piece_at i = g.piece (rooms i) (before i)

  -- the pieces of the first n calls, one after another
  unfoldable pub handed : ℕ → List ℕ
  handed zero = []
  handed (suc n) = handed n ++ piece_at n

  -- The whole is handed out: piece after piece until the empty one, each within its buffer.
  pub record HandsOut (whole : List ℕ) : Type 0 where
    -- how many pieces it takes
    pub count : ℕ
    -- together they are the whole
    pub all : handed count ≡ whole
    -- none of them is empty, so a caller does not stop early
    pub some : (i : ℕ) → i < count → piece_at i ≡ [] → ⊥
    -- all that follow are empty, so a caller does stop
    pub ends : (i : ℕ) → count ≤ i → piece_at i ≡ []
    -- none is longer than its buffer
    pub fits : (i : ℕ) → length (piece_at i) ≤ rooms i
