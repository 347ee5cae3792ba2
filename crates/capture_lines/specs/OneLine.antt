-- One line of a capture, of the value that was read. 02, request 01; form before range, as 01 has it. Assumes nothing.
use Rattle.std.specs.Prelude.{ℕ, cond, ltb, eqb, Option, None, Some, Result, Ok, Err}
use Rattle.refusals.specs.declared.Refusal.{Refusal}
use Rattle.refusals.specs.declared.Refusal.TheVariants.{LineNotOfForm, SizeOutOfRange, StampLower}
use Rattle.text_stamps.specs.declared.Misread.{Misread}
use Rattle.text_stamps.specs.declared.Misread.TheVariants.{NotOfForm, TooHigh}

-- line 3, `writes=` (0..1,500)
unfoldable pub writes_line : Option ℕ → Result ℕ Refusal
writes_line None = Err LineNotOfForm
writes_line (Some n) =
    cond (ltb 1500 n) (Err SizeOutOfRange)
    (Ok n)

-- line 4, `words=` (1..65,536)
unfoldable pub words_line : Option ℕ → Result ℕ Refusal
words_line None = Err LineNotOfForm
words_line (Some n) =
    cond (eqb n 0) (Err SizeOutOfRange)
    (cond (ltb 65536 n) (Err SizeOutOfRange)
    (Ok n))

-- `at=` (decimal, up to 20 digits, at most 2^64 - 1); "12, stamp lower than the one before, checked after form and range"
unfoldable pub stamp_line : ℕ → Result ℕ Misread → Result ℕ Refusal
stamp_line before (Err NotOfForm) = Err LineNotOfForm
stamp_line before (Err TooHigh) = Err SizeOutOfRange
stamp_line before (Ok stamp) =
    cond (ltb stamp before) (Err StampLower)
    (Ok stamp)

-- `port=` (0 to 3)
unfoldable pub port_line : Option ℕ → Result ℕ Refusal
port_line None = Err LineNotOfForm
port_line (Some n) =
    cond (ltb 3 n) (Err SizeOutOfRange)
    (Ok n)

-- `value=` (two lower-case hex digits)
unfoldable pub value_line : Option ℕ → Result ℕ Refusal
value_line None = Err LineNotOfForm
value_line (Some n) = Ok n
