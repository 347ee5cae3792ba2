-- What `io::decimal` writes is `decimal_text`: the fewest digits are those with no needless zero. Assumes nothing.
use mathlib.Core.Path.{◌≡◌, refl, sym, ap, ◌∙◌}
use mathlib.Core.List.{List, [], ◌∷◌}
use Prim.Native.Nat.{ℕ, zero, suc, ◌+◌, ◌-◌, ◌*◌, ◌/◌, ◌%◌, ◌^◌, ◌≤◌, ◌<◌}
use native.Mathlib.Nat.{pow-suc, pow-le-pow_right}
use native.Mathlib.Omega.{arith}
use borrow.Author.Tests.{lt-ltb}
use lib.ListN.{length, take, length-append}
use Rattle.io.specs.Digits.{last_digits, hex_digit_ascii, IsDigitCount}
use Rattle.laws.proofs.Tests.{by-lt}
use Rattle.text_put.specs.Text.{spelt, decimal_text}

glyph-ten : (d : ℕ) → d < 10 → hex_digit_ascii d ≡ 48 + d
glyph-ten d h = rw (lt-ltb d 10 h)

one-digit : (n r : ℕ) → n < 10 → IsDigitCount 10 1 n r → r ≡ 1
one-digit n zero h f = absurd (omega (arith, f.0))
one-digit n (suc zero) h f = refl
one-digit n (suc (suc r)) h f =
    let p : 10 ^ 1 ≤ 10 ^ (suc (suc r) - 1) = pow-le-pow_right (omega arith) {i = 1} {j = suc (suc r) - 1} (omega arith) in
    absurd (omega (arith, f.2 (omega arith)))

last-digit : (n : ℕ) → n < 10 → n % 10 ≡ n
last-digit n h = omega arith

digit : (n : ℕ) → n < 10 → (48 + n) ∷ [] ≡ last_digits 10 1 n
digit n h = rw (glyph-ten (n % 10) (omega arith), last-digit n h)

-- a number of two digits and more: what stands before the last is the text of n / 10
shorter : (n r : ℕ) → 10 ≤ n → IsDigitCount 10 1 n r → (q : ℕ) × (r ≡ suc q) × IsDigitCount 10 1 (n / 10) q
shorter n zero h f = absurd (omega (arith, f.0))
shorter n (suc zero) h f = absurd (omega (arith, f.1))
shorter n (suc (suc r)) h f =
    let a : suc (suc r) - 1 ≡ suc r = omega arith in
    let b : suc r - 1 ≡ r = omega arith in
    let low : 10 ^ r * 10 ≤ n = rw (a, pow-suc) at (f.2 (omega arith)) in
    let high : n < 10 ^ suc r * 10 = rw pow-suc at f.1 in
    (suc r, refl, (omega arith, omega arith, λ g. rw b (omega arith)))

spelt-digits : (k n r : ℕ) → n < 10 ^ suc k → IsDigitCount 10 1 n r → spelt k n ≡ last_digits 10 r n
unfolding spelt
spelt-digits zero n r h f = rw (one-digit n r h f) (digit n h)
spelt-digits (suc k) n r h f =
    by-lt (λ (l : List ℕ). l ≡ last_digits 10 r n) n 10 (λ g. rw (one-digit n r g f) (digit n g))
    (λ g.
    let (q, e, w) = shorter n r g f in
    let high : n < 10 ^ suc k * 10 = rw pow-suc at h in
    rw (e, spelt-digits k (n / 10) q (omega arith) w, glyph-ten (n % 10) (omega arith)))

pub length_digits : (b k n : ℕ) → length (last_digits b k n) ≡ k
length_digits b zero n = refl
length_digits b (suc k) n = length-append (last_digits b k (n / b)) (hex_digit_ascii (n % b) ∷ []) ∙ rw (length_digits b k (n / b)) (omega arith)

spelt-short : (k n : ℕ) → length (spelt k n) ≤ suc k
unfolding spelt
spelt-short zero n = omega arith
spelt-short (suc k) n =
    by-lt (λ (l : List ℕ). length l ≤ suc (suc k)) n 10 (λ g. omega arith)
    (λ g. rw length-append (omega (arith, spelt-short k (n / 10))))

decimal-is : (k n : ℕ) → n < 2 ^ 64 → IsDigitCount 10 1 n k → decimal_text n ≡ last_digits 10 k n
decimal-is k n h f = spelt-digits 19 n k (omega arith) f

pub decimal-long : (k n : ℕ) → n < 2 ^ 64 → IsDigitCount 10 1 n k → length (decimal_text n) ≡ k
decimal-long k n h f = ap length (decimal-is k n h f) ∙ length_digits 10 k n

-- what `io::decimal` leaves at the start of its twenty bytes
pub record Spelled (text : List ℕ) (k n : ℕ) : Type 0 where
  pub same : take k text ≡ decimal_text n
  pub long : length (decimal_text n) ≡ k
  pub few : k ≤ 20

pub spelled : {text : List ℕ} {k n : ℕ} → n < 2 ^ 64 → IsDigitCount 10 1 n k → take k text ≡ last_digits 10 k n → Spelled text k n
spelled {text} {k} {n} h f e =
    record { same = e ∙ sym (decimal-is k n h f); long = decimal-long k n h f; few = omega (arith, spelt-short 19 n, decimal-long k n h f) }

-- a number below 10 ^ (j + 1) has j + 1 digits at most
pub spelt-few : (k j n : ℕ) → n < 10 ^ suc j → length (spelt k n) ≤ suc j
unfolding spelt
spelt-few zero j n h = omega arith
spelt-few (suc k) zero n h = rw (lt-ltb n 10 h) (omega arith)
spelt-few (suc k) (suc j) n h =
    by-lt (λ (l : List ℕ). length l ≤ suc (suc j)) n 10 (λ g. omega arith)
    (λ g. let t : n < 10 ^ suc j * 10 = rw pow-suc at h in rw length-append (omega (arith, spelt-few k j (n / 10) (omega arith))))
