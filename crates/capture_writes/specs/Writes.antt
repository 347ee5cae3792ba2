-- The writes of a capture. 02, request 01: "then per write `at=` .., `port=` .., `value=` ..". Assumes nothing.
use Rattle.std.specs.Prelude.{ℕ, zero, suc, List, [], ◌∷◌, Result, Ok, Err}
use Rattle.refusals.specs.Numbers.{accepted, number_of}
use Rattle.text_lines.specs.Bytes.{bytes}
use Rattle.text_entries.specs.Entries.{line_entry_at, long_entry_at, byte_entry_at}
use Rattle.dump_clocks.specs.Clocks.{at_line, and_then}
use Rattle.dump_clocks.specs.declared.LineRefused.{LineRefused}
use Rattle.capture_lines.specs.OneLine.{stamp_line, port_line, value_line}
use Rattle.bus_writes.specs.declared.BusWrite.{BusWrite}
use Rattle.capture_writes.specs.declared.WriteLines.{WriteLines}

-- the step of a `do`
infixl 10 ◌>>=◌
abbrev pub ◌>>=◌ : {A B E : Type 0} → Result A E → (A → Result B E) → Result B E
r >>= f = and_then r f

-- the write at a place, after one of stamp `before`: its three lines, one after another
unfoldable pub lines_at : List ℕ → ℕ → ℕ → Result WriteLines LineRefused
lines_at text before at = do
  let one = long_entry_at (bytes "at=") text at
  stamp ← at_line (stamp_line before one.value) 0
  let two = line_entry_at (bytes "port=") text one.next
  port ← at_line (port_line two.value) 1
  let three = byte_entry_at (bytes "value=") text two.next
  value ← at_line (value_line three.value) 2
  Ok (record { write = record { stamp = stamp; port = port; value = value }; next = three.next })

-- the same in numbers, as the laws of playing cite it: of an accepted write number and line are 0, and of a refused one the rest is 0
pub record WriteTold : Type 0 where
  pub no : ℕ
  pub line : ℕ
  pub write : BusWrite
  pub next : ℕ

abbrev pub bad_write : ℕ → ℕ → WriteTold
bad_write number line = record { no = number; line = line; write = record { stamp = 0; port = 0; value = 0 }; next = 0 }

abbrev pub told_write : Result WriteLines LineRefused → WriteTold
told_write (Ok lines) = record { no = accepted; line = 0; write = lines.write; next = lines.next }
told_write (Err refused) = bad_write (number_of refused.why) refused.line

unfoldable pub write_at : List ℕ → ℕ → ℕ → WriteTold
write_at text before at = told_write (lines_at text before at)

-- n writes in file order, from a place on
unfoldable pub writes_from : List ℕ → ℕ → ℕ → List BusWrite
writes_from text zero at = []
writes_from text (suc n) at =
    let w = write_at text 0 at in
    w.write ∷ writes_from text n w.next

-- the place k writes on from a place
abbrev pub place_from : List ℕ → ℕ → ℕ → ℕ
place_from text zero at = at
place_from text (suc k) at = (write_at text 0 (place_from text k at)).next
