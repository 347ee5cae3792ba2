-- A stamp in a text. 02, request 01: "decimal, up to 20 digits, at most 2^64 - 1". Assumes nothing.
use Rattle.std.specs.Prelude.{ℕ, cond, List, Option, Some, None, Result, Ok, Err, ltb}
use Rattle.text_fields.specs.Fields.{decimal_up_to}
use Rattle.text_stamps.specs.declared.Misread.{Misread}
use Rattle.text_stamps.specs.declared.Misread.TheVariants.{NotOfForm, TooHigh}

-- with 20 digits or fewer a number above 2^64 - 1 has its form, and is over
abbrev pub ranged : Option ℕ → Result ℕ Misread
ranged None = Err NotOfForm
ranged (Some n) = cond (ltb 18446744073709551615 n) (Err TooHigh) (Ok n)

-- as a decimal is read (01), of up to 20 digits
unfoldable pub long_decimal_of : List ℕ → Result ℕ Misread
long_decimal_of ds = ranged (decimal_up_to 20 ds)
