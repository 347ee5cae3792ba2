-- A run of hex digits, digit after digit, and a byte of it. Assumes nothing.
use mathlib.Core.Bool.{Bool, true, false, ◌&&◌, cond}
use mathlib.Core.Path.{◌≡◌, refl, sym, ap, ◌∙◌}
use mathlib.Core.List.{List, [], ◌∷◌}
use Prim.Native.Nat.{ℕ, zero, suc, ◌+◌, ◌*◌, ◌≤◌, ◌<◌}
use native.Mathlib.Omega.{arith}
use borrow.Author.Tests.{le-leb, leb-true}
use lib.Dec.{leb}
use lib.ListN.{length, get_or}
use mir.Syntax.{w8}
use mir.Val.{Fits}
use Rattle.std.specs.Prelude.{Option, Some, is_some, IsSome}
use Rattle.std.specs.List.{list_all}
use Rattle.std.proofs.lemmas.Option.{same_Some}
use Rattle.text_fields.specs.Fields.{hex_value, hex_digit, all_hex, hex_byte}
use Rattle.laws.proofs.Tests.{by_cond}
use Rattle.laws.proofs.Lists.{both-parts}

and-cond : (s t : Bool) → (s && t) ≡ cond s t false
and-cond true t = refl
and-cond false t = refl

pub digit-some : (b : ℕ) {o : Option ℕ} → o ≡ hex_digit b → is_some o ≡ leb (hex_value b) 15
digit-some b e = rw e (by_cond (λ (o : Option ℕ). is_some o ≡ leb (hex_value b) 15) (leb (hex_value b) 15) _ _ (λ h. sym h) (λ h. sym h))

-- the run's test is std's test of every byte
pub every-hex : (s : List ℕ) → list_all (λ (b : ℕ). leb (hex_value b) 15) s ≡ all_hex s
unfolding all_hex
every-hex [] = refl
every-hex (b ∷ bs) = ap (λ (t : Bool). leb (hex_value b) 15 && t) (every-hex bs) ∙ and-cond (leb (hex_value b) 15) (all_hex bs)

-- each of a run of hex digits is one
pub hex-at : (s : List ℕ) → all_hex s ≡ true → (k : ℕ) → k < length s → hex_value (get_or s k 0) ≤ 15
unfolding all_hex
hex-at [] e k h = absurd (omega arith)
hex-at (b ∷ bs) e zero h = leb-true (hex_value b) 15 (both-parts (leb (hex_value b) 15) (all_hex bs) e).0
hex-at (b ∷ bs) e (suc k) h = hex-at bs (both-parts (leb (hex_value b) 15) (all_hex bs) e).1 k (omega arith)

-- so there `hex_value` gives its value
module _ (s : List ℕ) (e : all_hex s ≡ true) (k : ℕ) (h : k < length s) {o : Option ℕ} (q : o ≡ hex_digit (get_or s k 0)) where
  some-there : o ≡ Some (hex_value (get_or s k 0))
  some-there = rw (q, le-leb (hex_value (get_or s k 0)) 15 (hex-at s e k h))

  given : IsSome o
  given = rw some-there refl

  taken : {v : ℕ} → o ≡ Some v → v ≡ hex_value (get_or s k 0)
  taken {v} p = same_Some v (hex_value (get_or s k 0)) (sym p ∙ some-there)

-- two digits lie in the run, and make a byte
module _ (s : List ℕ) (i : ℕ) (e : all_hex s ≡ true) (h : 2 * i + 1 < length s) where
  module _ {o : Option ℕ} (q : o ≡ hex_digit (get_or s (2 * i) 0)) where
    pub high-given : IsSome o
    high-given = given s e (2 * i) (omega arith) q

    pub high-is : {v : ℕ} → o ≡ Some v → v ≡ hex_value (get_or s (2 * i) 0)
    high-is = taken s e (2 * i) (omega arith) q

  module _ {o : Option ℕ} (q : o ≡ hex_digit (get_or s (2 * i + 1) 0)) where
    pub low-given : IsSome o
    low-given = given s e (2 * i + 1) h q

    pub low-is : {v : ℕ} → o ≡ Some v → v ≡ hex_value (get_or s (2 * i + 1) 0)
    low-is = taken s e (2 * i + 1) h q

  pub digit-high : {v : ℕ} → v ≡ hex_value (get_or s (2 * i) 0) → Fits w8 (16 * v)
  digit-high q = omega (arith, hex-at s e (2 * i) (omega arith))

  pub digits-fit : {v w : ℕ} → v ≡ hex_value (get_or s (2 * i) 0) → w ≡ hex_value (get_or s (2 * i + 1) 0) → Fits w8 (16 * v + w)
  digits-fit q p = omega (arith, hex-at s e (2 * i) (omega arith), hex-at s e (2 * i + 1) h)

  pub byte-is : {v w : ℕ} → v ≡ hex_value (get_or s (2 * i) 0) → w ≡ hex_value (get_or s (2 * i + 1) 0) → 16 * v + w ≡ hex_byte s i
  unfolding hex_byte
  byte-is q p = rw (q, p)
