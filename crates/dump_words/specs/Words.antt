-- What the words are as text, and what a buffer holds after they are put there. 01, "The dump player". Assumes nothing.
use Rattle.std.specs.Prelude.{ℕ, ◌+◌, ◌*◌, Bool, cond, List, [], ◌∷◌, ◌++◌, leb, length}
use Rattle.text_put.specs.Text.{number_text, overlaid}

-- Every output line ends in one LF.
unfoldable pub lines_of : List ℕ → List ℕ
lines_of [] = []
lines_of (w ∷ ws) = number_text w 10 ++ lines_of ws

-- the lines of words, where there is room of six bytes for each
abbrev pub roomy : List ℕ → ℕ → List ℕ → Bool
roomy out at words = leb (at + 6 * length words) (length out)

unfoldable pub words_laid : List ℕ → ℕ → List ℕ → List ℕ
words_laid out at words = cond (roomy out at words) (overlaid out at (lines_of words)) out

unfoldable pub words_place : List ℕ → ℕ → List ℕ → ℕ
words_place out at words = cond (roomy out at words) (at + length (lines_of words)) at
