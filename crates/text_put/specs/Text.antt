-- What a number is as text, and what a buffer holds after bytes are put there. Assumes nothing.
use Rattle.std.specs.Prelude.{ℕ, zero, suc, ◌+◌, ◌/◌, ◌%◌, Bool, cond, List, [], ◌∷◌, ◌++◌, leb, ltb, length, take, drop}
use Rattle.io.specs.Digits.{last_digits}

-- n in decimal, with no needless zero: a digit, or the text of n / 10 and the last digit. Up to k digits stand before the last
unfoldable pub spelt : ℕ → ℕ → List ℕ
spelt zero n = (48 + n) ∷ []
spelt (suc k) n =
    let more = spelt k (n / 10) ++ ((48 + n % 10) ∷ []) in
    cond (ltb n 10) ((48 + n) ∷ []) more

-- a u64 has 20 digits at most
abbrev pub decimal_text : ℕ → List ℕ
decimal_text n = spelt 19 n

-- a number and the byte that ends it
abbrev pub number_text : ℕ → ℕ → List ℕ
number_text n end = decimal_text n ++ (end ∷ [])

-- the last `width` digits of n in lower-case hex
abbrev pub hex_text : ℕ → ℕ → List ℕ
hex_text n width = last_digits 16 width n

-- the buffer with bytes from `at` on, and the place after them
abbrev pub overlaid : List ℕ → ℕ → List ℕ → List ℕ
overlaid out at bytes = take at out ++ bytes ++ drop (at + length bytes) out

-- both as they were where the bytes do not fit
abbrev pub fits : List ℕ → ℕ → List ℕ → Bool
fits out at bytes = leb (at + length bytes) (length out)

unfoldable pub laid : List ℕ → ℕ → List ℕ → List ℕ
laid out at bytes = cond (fits out at bytes) (overlaid out at bytes) out

unfoldable pub place_after : List ℕ → ℕ → List ℕ → ℕ
place_after out at bytes = cond (fits out at bytes) (at + length bytes) at
