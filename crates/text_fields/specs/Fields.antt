-- Numbers in a text. 01, "The dump player". Assumes nothing.
use Rattle.std.specs.Prelude.{ℕ, ◌+◌, ◌-◌, ◌*◌, Bool, true, false, cond, List, [], ◌∷◌, Option, Some, None, leb, ltb, eqb, length, get_or}

-- a 0 with digits after it
unfoldable pub needless : List ℕ → Bool
needless ds = cond (ltb 1 (length ds)) (eqb (get_or ds 0 0) 48) false

-- digit after digit, `0` to `9`: ten times what came before, and the digit
unfoldable pub digits : ℕ → List ℕ → Option ℕ
digits n [] = Some n
digits n (d ∷ ds) =
    let more = digits (10 * n + (d - 48)) ds in
    cond (ltb d 48) None
    (cond (ltb 57 d) None
    more)

-- 1 to `most` digits and no needless leading zero
abbrev pub decimal_up_to : ℕ → List ℕ → Option ℕ
decimal_up_to most ds =
    cond (eqb (length ds) 0) None
    (cond (ltb most (length ds)) None
    (cond (needless ds) None
    (digits 0 ds)))

-- Decimals have 1 to 10 digits and no needless leading zero.
unfoldable pub decimal_of : List ℕ → Option ℕ
decimal_of ds = decimal_up_to 10 ds

-- a lower-case hex digit's value; 16 for any other byte
unfoldable pub hex_value : ℕ → ℕ
hex_value b =
    cond (ltb b 48) 16
    (cond (leb b 57) (b - 48)
    (cond (ltb b 97) 16
    (cond (leb b 102) (b - 87)
    16)))

abbrev pub hex_digit : ℕ → Option ℕ
hex_digit b = cond (leb (hex_value b) 15) (Some (hex_value b)) None

unfoldable pub all_hex : List ℕ → Bool
all_hex [] = true
all_hex (b ∷ bs) = cond (leb (hex_value b) 15) (all_hex bs) false

-- byte i of a run of hex digits: two digits, the high one first
unfoldable pub hex_byte : List ℕ → ℕ → ℕ
hex_byte ds i = 16 * hex_value (get_or ds (2 * i) 0) + hex_value (get_or ds (2 * i + 1) 0)
