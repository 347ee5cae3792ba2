-- What applied writes changed, counted where they stood in the ring. 02, request 03. Assumes nothing.
use Rattle.std.specs.Prelude.{List, [], ℕ}
use Rattle.registers.specs.Writes.{RegisterWrite}
use Rattle.queue.specs.Waiting.{ring, writes_from}
use Rattle.queue_flush.specs.Applied.{register_writes}

-- The register writes of n slots, from a place on: stamps say nothing to what they do.
abbrev pub writes_at : List ℕ → List ℕ → ℕ → ℕ → List RegisterWrite
writes_at registers values place n = register_writes (writes_from n place (ring [] registers values 0 0))
