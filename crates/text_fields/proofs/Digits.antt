-- A decimal read digit after digit: the invariant of `decimal_up_to`, and its moves. Assumes nothing.
use mathlib.Core.Path.{◌≡◌, refl, sym, ◌∙◌}
use mathlib.Core.List.{List, [], ◌∷◌}
use Prim.Native.Nat.{ℕ, suc, ◌+◌, ◌-◌, ◌*◌, ◌^◌, ◌≤◌, ◌<◌}
use native.Mathlib.Numerals.{add-one}
use native.Mathlib.Nat.{pow-suc, pow-le-pow_right}
use native.Mathlib.Omega.{arith}
use lib.ListN.{length, drop, get_or, drop_of_length-le}
use lib.Seq.{drop-cons}
use mir.Syntax.{w64, w128}
use mir.Val.{Fits}
use lib.Dec.{ltb}
use Rattle.std.specs.Prelude.{Option, Some, None, IfSome}
use Rattle.std.proofs.Common.{add-zero, zero-add}
use Rattle.std.proofs.lemmas.Option.{IfSome_then, MatchOption-at_some}
use Rattle.text_fields.specs.Fields.{needless, digits, decimal_up_to}
use Rattle.std.proofs.lemmas.Bool.Decides.{nat_tests}
use Rattle.laws.proofs.Tests.{on-lt, on-ge, by_cond, by-lt, by-eq}

-- one digit more: too low, too high, or read
module _ (n d : ℕ) (ds : List ℕ) where
  digits_low : d < 48 → None ≡ digits n (d ∷ ds)
  unfolding digits
  digits_low h = on-lt d _ _ _ _ h refl

  digits-high : 48 ≤ d → 57 < d → None ≡ digits n (d ∷ ds)
  unfolding digits
  digits-high l h = on-ge d _ _ _ _ l (on-lt _ d _ _ _ h refl)

  digits-on : 48 ≤ d → d ≤ 57 → digits (10 * n + (d - 48)) ds ≡ digits n (d ∷ ds)
  unfolding digits
  digits-on l h = on-ge d _ _ _ _ l (on-ge _ d _ _ _ h refl)

-- what is left to read gives the whole, and what is read is below the power of ten of its digits, of which there are `most`
pub record Reading (most : ℕ) (s : List ℕ) (n i : ℕ) : Type 0 where
  pub same : digits n (drop i s) ≡ digits 0 s
  pub few : length s ≤ most
  pub small : n < 10 ^ i

pub reading-start : {most : ℕ} {s : List ℕ} → length s ≤ most → Reading most s 0 0
reading-start h = record { same = refl; few = h; small = omega arith }

-- of fewer digits comes a lower power of ten
pub under : (i k : ℕ) → i ≤ k → 10 ^ i ≤ 10 ^ k
under i k h = pow-le-pow_right (omega arith) {i = i} {j = k} h

module _ {most : ℕ} {s : List ℕ} {n i : ℕ} (m : Reading most s n i) (h : i < length s) where
  -- the digit at i, then the rest
  here : digits n (get_or s i 0 ∷ drop (suc i) s) ≡ digits 0 s
  here = rw (drop-cons s i 0 h) at m.same

  pub reading-low : get_or s i 0 < 48 → None ≡ digits 0 s
  reading-low e = digits_low n _ _ e ∙ here

  pub reading-high : 48 ≤ get_or s i 0 → 57 < get_or s i 0 → None ≡ digits 0 s
  reading-high e d = digits-high n _ _ e d ∙ here

  module _ (e : 48 ≤ get_or s i 0) (d : get_or s i 0 ≤ 57) where
    pub read : digits (10 * n + (get_or s i 0 - 48)) (drop (suc i) s) ≡ digits 0 s
    read = digits-on n _ _ e d ∙ here

    pub reading-on : Reading most s (10 * n + (get_or s i 0 - 48)) (i + 1)
    reading-on = record { same = rw add-one read; few = m.few; small = rw (add-one, pow-suc) (omega (arith, m.small)) }

pub reading-all : {most : ℕ} {s : List ℕ} {n i : ℕ} → Reading most s n i → length s ≤ i → Some n ≡ digits 0 s
unfolding digits
reading-all {most} {s} {n} {i} m h = rw (drop_of_length-le s {i = i} h) at m.same

-- 38 digits fit: what is read before the last is below 10 ^ 37
module _ {most : ℕ} {s : List ℕ} {n i : ℕ} (m : Reading most s n i) (k : most ≤ 38) (h : i < length s) where
  before_last : n < 10 ^ 37
  before_last = omega (arith, under i 37 (omega (arith, m.few)), m.small)

  pub reading-mul : Fits w128 (10 * n)
  reading-mul = omega (arith, before_last)

  pub reading-add : get_or s i 0 ≤ 57 → Fits w128 (10 * n + (get_or s i 0 - 48))
  reading-add d = omega (arith, before_last)

-- what a decimal reads is below the power of ten of its most digits
digits-small : (i : ℕ) (n : ℕ) (ds : List ℕ) → n < 10 ^ i → IfSome (digits n ds) (λ (v : ℕ). v < 10 ^ (i + length ds))
unfolding digits
digits-small i n [] h = rw add-zero h
digits-small i n (d ∷ ds) h =
    by_cond (λ (o : Option ℕ). IfSome o (λ (v : ℕ). v < 10 ^ (i + suc (length ds)))) (ltb d 48) _ _ (λ _. tt)
    (λ _. by-lt (λ (o : Option ℕ). IfSome o (λ (v : ℕ). v < 10 ^ (i + suc (length ds)))) 57 d (λ _. tt)
    (λ e.
    let z : i + suc (length ds) ≡ suc i + length ds = omega arith in
    rw z (digits-small (suc i) (10 * n + (d - 48)) ds (rw pow-suc (omega arith)))))

pub decimal-small : (most : ℕ) (ds : List ℕ) → IfSome (decimal_up_to most ds) (λ (v : ℕ). v < 10 ^ most)
decimal-small most ds =
    let P : Option ℕ → Type 0 = λ o. IfSome o (λ (v : ℕ). v < 10 ^ most) in
    by-eq P (length ds) 0 (λ _. tt)
    (λ _. by-lt P most (length ds) (λ _. tt)
    (λ e. by_cond P (needless ds) _ _ (λ _. tt)
    (λ _. IfSome_then (digits 0 ds) (rw zero-add at (digits-small 0 0 ds (omega arith))) (λ v q. omega (arith, q, under (length ds) most e)))))

-- 19 digits fit
pub decimal-fits : (most : ℕ) (ds : List ℕ) → most ≤ 19 → {o : Option ℕ} {n : ℕ} → o ≡ decimal_up_to most ds → o ≡ Some n → Fits w64 n
decimal-fits most ds h {o} {n} e f =
    let s : n < 10 ^ most = MatchOption-at_some Unit (λ (v : ℕ). v < 10 ^ most) n (sym e ∙ f) (decimal-small most ds) in
    omega (arith, s, under most 19 h)

pub ruleset readings = (nat_tests, reading-start, reading-mul, reading-add)
