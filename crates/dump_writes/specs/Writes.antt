-- What a frame writes. 01, "The dump player": "Each frame writes R0..R13 at once in order", as request 02 amends it. Assumes nothing.
use Rattle.std.specs.Prelude.{cond, List, ℕ, eqb}
use Rattle.text_fields.specs.Fields.{hex_byte}
use Rattle.registers.specs.Writes.{RegisterWrite, registers_from}

-- 02, request 02: "a frame whose last byte is ff now writes R0..R12 only". The byte is the line's, before any mask.
unfoldable pub registers_written : List ℕ → ℕ
registers_written value = cond (eqb (hex_byte value 13) 255) 13 14

-- from R0 on in order, each of two digits
unfoldable pub frame_writes : List ℕ → List RegisterWrite
frame_writes value = registers_from (registers_written value) 0 (hex_byte value)
