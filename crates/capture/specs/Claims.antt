-- What is claimed of an accepted capture's writes. 02, request 01. Assumes nothing.
use Rattle.std.specs.Prelude.{List, ◌≡◌, ℕ, ◌+◌, ◌*◌, ◌≤◌, ◌<◌, length, get_or}
use Rattle.refusals.specs.Numbers.{accepted}
use Rattle.bus_writes.specs.declared.BusWrite.{BusWrite}
use Rattle.capture_writes.specs.Writes.{WriteTold, write_at, writes_from, place_from}
use Rattle.capture.specs.Checked.{capture_of}
use Rattle.capture.specs.Rising.{Rising, line_from}

-- the writes in file order, as playing takes them
abbrev pub all_writes : List ℕ → List BusWrite
all_writes text = writes_from text (capture_of text).writes (capture_of text).body

-- where write k stands, the first being write 0: behind the lines of the one before it
abbrev pub place_of : List ℕ → ℕ → ℕ
place_of text k = place_from text k (capture_of text).body

-- what its three lines say
abbrev pub read_of : List ℕ → ℕ → WriteTold
read_of text k = write_at text 0 (place_of text k)

pub record Stands (text : List ℕ) (k : ℕ) : Type 0 where
  -- Its `at=` is line 5 + 3 × k of the text: 4 + 3 × k lines stand before it.
  pub line : place_of text k ≡ line_from text (4 + 3 * k) 0
  -- Its three lines have their form, and what they say is in range.
  pub form : (read_of text k).no ≡ accepted
  pub stamp : (read_of text k).write.stamp ≤ 18446744073709551615
  pub port : (read_of text k).write.port ≤ 3
  pub value : (read_of text k).write.value ≤ 255
  -- It is write k of the list.
  pub listed : (other : BusWrite) → get_or (all_writes text) k other ≡ (read_of text k).write

-- Of every text that the check accepts.
pub record AcceptedWrites (text : List ℕ) : Type 0 where
  -- There are as many as line 3 says, and that is 1,500 at most.
  pub count : length (all_writes text) ≡ (capture_of text).writes
  pub most : (capture_of text).writes ≤ 1500
  -- Stamps never fall: said of the list, and of two writes that follow each other.
  pub rising : Rising 0 (all_writes text)
  pub next : (k : ℕ) → k + 1 < (capture_of text).writes → (read_of text k).write.stamp ≤ (read_of text (k + 1)).write.stamp
  -- Each stands where the walk from line to line says.
  pub each : (k : ℕ) → k < (capture_of text).writes → Stands text k
