-- The lines around the words. 01, "The dump player"; 02, request 01. Assumes nothing.
use Rattle.std.specs.Prelude.{ℕ, List, ◌++◌}
use Rattle.text_lines.specs.Bytes.{bytes}
use Rattle.text_put.specs.Text.{number_text}

-- A refusal prints only `refused=R line=L`.
unfoldable pub refusal_text : ℕ → ℕ → List ℕ
refusal_text number line = bytes "refused=" ++ number_text number 32 ++ bytes "line=" ++ number_text line 10

-- `words=N`, ahead of the words
unfoldable pub total_text : ℕ → List ℕ
total_text words = bytes "words=" ++ number_text words 10

-- "a last line `left=K` for writes never reached"
unfoldable pub left_text : ℕ → List ℕ
left_text writes = bytes "left=" ++ number_text writes 10
