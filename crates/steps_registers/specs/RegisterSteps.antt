-- What the calls that read registers answer of a lent record. 01, "Registers and ports". Assumes nothing.
use Rattle.std.specs.Prelude.{ℕ, ◌/◌, ◌%◌, eqb, ltb, get_or, replicate, Bool, cond, List, [], ◌∷◌}
use Rattle.answers.specs.Answers.{byte_answer}
use Rattle.answers.specs.declared.Byte.{Byte}
use Rattle.answers.specs.declared.Bytes.{Bytes}
use Rattle.refusals.specs.Numbers.{accepted, out_of_range}

-- port bit 1 clear
abbrev pub bit1_clear : ℕ → Bool
bit1_clear port = eqb (port / 2 % 2) 0

-- Reading registers 14 and up gives 0.
unfoldable pub register_said : Bool → List ℕ → ℕ → Byte
register_said ok bytes register =
    cond ok
    (cond (ltb register 14) (byte_answer accepted (get_or bytes register 0)) (byte_answer accepted 0))
    (byte_answer out_of_range 0)

-- the fourteen bytes, and two zeros
unfoldable pub padded : List ℕ → List ℕ
padded r =
    get_or r 0 0 ∷ get_or r 1 0 ∷ get_or r 2 0 ∷ get_or r 3 0 ∷ get_or r 4 0 ∷ get_or r 5 0 ∷ get_or r 6 0 ∷ get_or r 7 0 ∷ get_or r 8 0 ∷ get_or r 9 0
    ∷ get_or r 10 0 ∷ get_or r 11 0 ∷ get_or r 12 0 ∷ get_or r 13 0 ∷ 0 ∷ 0 ∷ []

unfoldable pub dump_said : Bool → List ℕ → Bytes
dump_said ok bytes = cond ok (record { no = accepted; bytes = padded bytes }) (record { no = out_of_range; bytes = replicate 16 0 })

-- `read_port` gives the stored byte if bit 1 is clear and the selection is below 14, else 0xFF.
unfoldable pub port_said : Bool → List ℕ → ℕ → ℕ → Byte
port_said ok bytes selected port =
    cond ok
    (cond (bit1_clear port)
    (cond (ltb selected 14) (byte_answer accepted (get_or bytes selected 0)) (byte_answer accepted 0xff))
    (byte_answer accepted 0xff))
    (byte_answer out_of_range 0)
