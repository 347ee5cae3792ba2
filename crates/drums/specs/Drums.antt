-- What a drum's sample gives, and f32 as 01 uses it. 01, "One tick, one word". Assumes nothing.
use Rattle.std.specs.Prelude.{cond, ℕ, ◌*◌, ◌/◌, min, Float, pos}
use Rattle.std.specs.Float.{nan, inf, fin, binary32}
use Rattle.std.specs.Float.Ieee.{up, down, div, mul, of_int}

-- a whole number as an f32
abbrev pub float : ℕ → Float
float n = of_int binary32 (pos n)

abbrev pub quotient : Float → Float → Float
quotient a b = div binary32 a b

abbrev pub times : Float → Float → Float
times a b = mul binary32 a b

-- cut toward zero, at most 10922; negative and NaN give 0
unfoldable pub cut_of : Float → ℕ
cut_of nan = 0
cut_of (inf negative) = cond negative 0 10922
cut_of (fin negative m e) = cond negative 0 (min (m * up e / down e) 10922)

-- a drum gives s / 4, times 10922, each rounded once in f32
unfoldable pub drum_out : Float → ℕ
unfolding cut_of
drum_out s = cut_of (times (quotient s (float 4)) (float 10922))
