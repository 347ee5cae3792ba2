-- `dump_writes::bytes_of` meets its contract: the first i bytes are the frame's. Assumes nothing.
use mathlib.Core.Path.{◌≡◌}
use Prim.Native.Nat.{ℕ, ◌<◌}
use lib.ListN.{get_or}
use Rattle.text_fields.specs.Fields.{hex_byte}
use Rattle.dump_writes.proofs.bytes_of.Given as goal

abbrev pub invariant-loop-i : goal.invariant-loop-i
invariant-loop-i l = (k : ℕ) → k < l.i → get_or l.byte-items k 0 ≡ hex_byte l.value k
