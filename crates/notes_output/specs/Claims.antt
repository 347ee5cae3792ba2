-- What is claimed of the output. 02, request 12. Nothing here is proved; `claims` of `proofs/Claims.antt` shows it of every text. Assumes
-- nothing.
use Rattle.std.specs.Prelude.{List, ◌≡◌, ℕ, zero, suc, ◌<◌, take, Some, Ok}
use Rattle.text_lines.specs.Bytes.{bytes}
use Rattle.text_entries.specs.Entries.{line_entry_at}
use Rattle.pitch.specs.Claims.{IsNearest}
use Rattle.dump_input.specs.Enough.{enough}
use Rattle.notes_text.specs.Checked.{asked_in, note_at}
use Rattle.notes_text.specs.declared.Asked.{Asked}
use Rattle.notes_output.specs.Printed.{printed}

-- the place k notes on from a place
abbrev pub place_from : ℕ → List ℕ → ℕ → ℕ → ℕ
place_from master text zero at = at
place_from master text (suc k) at = place_from master text k (note_at master text at).next

-- where note k of a checked list stands, the first being note 0
abbrev pub place_of : Asked → List ℕ → ℕ → ℕ
place_of asked text k = place_from asked.master text k asked.body

-- its line asks for a pitch, it is answered by a period, and that is the nearest
pub record Nearest (asked : Asked) (text : List ℕ) (k : ℕ) : Type 0 where
  pub pitch : ℕ
  pub asks : (line_entry_at (bytes "pitch=") text (place_of asked text k)).value ≡ Some pitch
  pub period : ℕ
  pub told : (note_at asked.master text (place_of asked text k)).value ≡ Ok period
  pub is : IsNearest asked.master pitch period

-- Of every text, refused ones too.
pub record Claims (text : List ℕ) : Type 0 where
  -- In an accepted list each period is the nearest to the pitch of its line.
  pub nearest : (asked : Asked) → asked_in text ≡ Ok asked → (k : ℕ) → k < asked.notes → Nearest asked text k
  -- A list longer than 65,536 bytes is refused, whatever follows: its first bytes give the same output.
  pub beginning : printed (take enough text) ≡ printed text
