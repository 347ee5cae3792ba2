-- A byte put in its place by a choice at every place. Assumes nothing.
use mathlib.Core.Bool.{cond}
use mathlib.Core.List.{List, [], ◌∷◌}
use mathlib.Core.Path.{◌≡◌, refl, sym, ap, ◌∙◌}
use Prim.Native.Nat.{ℕ, zero, suc, ◌+◌, ◌<◌}
use native.Mathlib.Nat.{zero-add, add-zero}
use native.Mathlib.Omega.{arith}
use borrow.Author.Tests.{eq-eqb, ne_eqb}
use lib.Dec.{eqb}
use lib.ListN.{length, get_or, set}
use lib.Seq.{ext_get_or}
use Rattle.laws.proofs.Table.{tab, tab-at}

-- the chosen bytes, from a place on
abbrev pub choices : ℕ → ℕ → ℕ → List ℕ → List ℕ
choices place register byte [] = []
choices place register byte (held ∷ l) = cond (eqb register place) byte held ∷ choices (suc place) register byte l

past : (l : List ℕ) (k r y : ℕ) → r < k → choices k r y l ≡ l
past [] k r y h = refl
past (x ∷ l) k r y h = rw (ne_eqb r k (λ e. omega arith), past l (suc k) r y (omega arith))

chosen-set : (l : List ℕ) (k j y : ℕ) → choices k (k + j) y l ≡ set l j y
chosen-set [] k j y = refl
chosen-set (x ∷ l) k zero y = rw (add-zero k, eq-eqb k k refl, past l (suc k) k y (omega arith))
chosen-set (x ∷ l) k (suc j) y =
    let e : k + suc j ≡ suc k + j = omega arith in
    rw (ne_eqb (k + suc j) k (λ e. omega arith)) (ap (λ (r : ℕ). x ∷ choices (suc k) r y l) e ∙ ap (λ (m : List ℕ). x ∷ m) (chosen-set l (suc k) j y))

-- bytes as they are read, one by one
spelled : (bytes : List ℕ) → length bytes ≡ 14 → tab 14 0 (λ i. get_or bytes i 0) ≡ bytes
spelled bytes h = ext_get_or 0 (tab 14 0 (λ i. get_or bytes i 0)) bytes (sym h) (λ i k. tab-at 14 (λ i. get_or bytes i 0) i k)

-- chosen one by one
pub chosen_more : {x y : ℕ} {l m : List ℕ} → x ≡ y → l ≡ m → x ∷ l ≡ y ∷ m
chosen_more e f = rw (e, f)

pub put-chosen : (bytes : List ℕ) (register byte : ℕ) {chosen : List ℕ} → length bytes ≡ 14
    → chosen ≡ choices 0 register byte (tab 14 0 (λ i. get_or bytes i 0)) → chosen ≡ set bytes register byte
put-chosen bytes r y h e =
    e ∙ ap (choices 0 r y) (spelled bytes h) ∙ ap (λ (n : ℕ). choices 0 n y bytes) (sym (zero-add r)) ∙ chosen-set bytes 0 r y
