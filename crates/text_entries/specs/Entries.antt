-- A line that has one value. 01, "The dump player"; 02, request 01. Assumes nothing.
use Rattle.std.specs.Prelude.{ℕ, Bool, false, cond, List, Option, Some, None, Result, eqb, length}
use Rattle.text_fields.specs.Fields.{decimal_of, all_hex, hex_byte}
use Rattle.text_stamps.specs.Stamps.{long_decimal_of}
use Rattle.text_stamps.specs.declared.Misread.{Misread}
use Rattle.text_lines.specs.Lines.{line_at, value_at}
use Rattle.text_entries.specs.declared.Entry.{Entry}

-- a number's line at a place, with no value where it is missing, and the place of the next line
unfoldable pub line_entry_at : List ℕ → List ℕ → ℕ → Entry (Option ℕ)
line_entry_at key text at = record { value = decimal_of (value_at key text at); next = (line_at text at).next }

-- the same of a decimal of up to 20 digits
unfoldable pub long_entry_at : List ℕ → List ℕ → ℕ → Entry (Result ℕ Misread)
long_entry_at key text at = record { value = long_decimal_of (value_at key text at); next = (line_at text at).next }

-- the same of a byte: two lower-case hex digits
unfoldable pub is_byte : List ℕ → Bool
is_byte value = cond (eqb (length value) 2) (all_hex value) false

abbrev pub byte_of : List ℕ → Option ℕ
byte_of value = cond (is_byte value) (Some (hex_byte value 0)) None

unfoldable pub byte_entry_at : List ℕ → List ℕ → ℕ → Entry (Option ℕ)
byte_entry_at key text at = record { value = byte_of (value_at key text at); next = (line_at text at).next }
