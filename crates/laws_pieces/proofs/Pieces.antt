-- A giver hands out the whole if each piece is the next part of what is left, and is empty only where nothing is left. Assumes nothing.
use mathlib.Core.List.{List, [], ◌∷◌, ◌++◌, append_assoc, append-nil}
use mathlib.Core.Path.{◌≡◌, refl, sym, ap, ◌∙◌}
use Prim.Native.Nat.{ℕ, zero, suc, ◌+◌, ◌-◌, ◌≤◌, ◌<◌}
use native.Mathlib.Omega.{arith}
use lib.ListN.{length, length-append}
use Rattle.laws.proofs.Tests.{by_order}
use Rattle.laws_pieces.specs.Pieces.{Giver, Rooms, before, piece_at, handed, HandsOut}

-- what is known of each step: `rest` is what is yet to be handed out
pub record Gives {S : Type 0} (g : Giver S) (Stands : S → Type 0) (rest : S → List ℕ) (least : ℕ) : Type 0 where
  pub part : (room : ℕ) (s : S) → least ≤ room → Stands s → g.piece room s ++ rest (g.next room s) ≡ rest s
  pub stands : (room : ℕ) (s : S) → least ≤ room → Stands s → Stands (g.next room s)
  pub last : (room : ℕ) (s : S) → least ≤ room → Stands s → g.piece room s ≡ [] → rest s ≡ []
  pub within : (room : ℕ) (s : S) → least ≤ room → Stands s → length (g.piece room s) ≤ room

pub is-empty : (l : List ℕ) → length l ≤ 0 → l ≡ []
is-empty [] h = refl
is-empty (x ∷ l) h = absurd (omega arith)

-- nothing is put before nothing
front-empty : (a b : List ℕ) → a ++ b ≡ [] → a ≡ []
front-empty a b e =
    let z : length (a ++ b) ≡ 0 = ap length e in
    is-empty a (omega (arith, length-append a b, z))

back-empty : (a b : List ℕ) → a ++ b ≡ [] → b ≡ []
back-empty a b e =
    let z : length (a ++ b) ≡ 0 = ap length e in
    is-empty b (omega (arith, length-append a b, z))

by-empty : {P : Type 0} (l : List ℕ) → (l ≡ [] → P) → ((l ≡ [] → ⊥) → 0 < length l → P) → P
by-empty [] a b = a refl
by-empty (x ∷ l) a b =
    let long : 0 < length (x ∷ l) = omega arith in
    b (λ e. let z : length (x ∷ l) ≡ 0 = ap length e in absurd (omega (arith, long, z))) long

module _ {S : Type 0} {g : Giver S} {Stands : S → Type 0} {rest : S → List ℕ} {least : ℕ} (gives : Gives g Stands rest least) (rooms : Rooms)
    (roomy : (i : ℕ) → least ≤ rooms i) (s : S) (stood : Stands s) where
  -- where the giver stands before call i
  abbrev at : ℕ → S
  at = before g rooms s

  pub before_stands : (i : ℕ) → Stands (before g rooms s i)
  unfolding before
  before_stands zero = stood
  before_stands (suc i) = gives.stands (rooms i) (at i) (roomy i) (before_stands i)

  part-on : (i : ℕ) → piece_at g rooms s i ++ rest (at (suc i)) ≡ rest (at i)
  unfolding before
  part-on i = gives.part (rooms i) (at i) (roomy i) (before_stands i)

  -- what is handed out, and what is yet to be, are the whole
  pub handed-rest : (n : ℕ) → handed g rooms s n ++ rest (before g rooms s n) ≡ rest s
  unfolding handed before
  handed-rest zero = refl
  handed-rest (suc n) =
      append_assoc (handed g rooms s n) (piece_at g rooms s n) (rest (at (suc n)))
      ∙ ap (λ (l : List ℕ). handed g rooms s n ++ l) (part-on n)
      ∙ handed-rest n

  -- once nothing is left, nothing is handed out
  rest-none : (n k : ℕ) → rest (at n) ≡ [] → rest (at (n + k)) ≡ []
  rest-none n zero e = let z : n + 0 ≡ n = omega arith in rw z e
  rest-none n (suc k) e =
      let z : n + suc k ≡ suc (n + k) = omega arith in
      rw z (back-empty (piece_at g rooms s (n + k)) (rest (at (suc (n + k)))) (part-on (n + k) ∙ rest-none n k e))

  piece-none : (n i : ℕ) → n ≤ i → rest (at n) ≡ [] → piece_at g rooms s i ≡ []
  piece-none n i h e =
      let z : n + (i - n) ≡ i = omega arith in
      front-empty (piece_at g rooms s i) (rest (at (suc i))) (part-on i ∙ (rw z at (rest-none n (i - n) e)))

  abbrev Full : ℕ → Type 0
  Full n = (i : ℕ) → i < n → piece_at g rooms s i ≡ [] → ⊥

  one_more : (n : ℕ) → Full n → (piece_at g rooms s n ≡ [] → ⊥) → Full (suc n)
  one_more n full e i h = by_order n i (λ k. let z : i ≡ n = omega arith in rw z e) (λ k. full i k)

  -- the empty piece ends it
  ended : (n : ℕ) → Full n → piece_at g rooms s n ≡ [] → HandsOut g rooms s (rest s)
  ended n full e =
      let none : rest (at n) ≡ [] = gives.last (rooms n) (at n) (roomy n) (before_stands n) e in
      record {
        count = n;
        all = sym (append-nil (handed g rooms s n)) ∙ (rw none at (handed-rest n));
        some = full;
        ends = λ i m. piece-none n i m none;
        fits = λ i. gives.within (rooms i) (at i) (roomy i) (before_stands i);
      }

  -- it comes, as each piece before it leaves less: at most k bytes are left
  ends-within : (k n : ℕ) → length (rest (at n)) ≤ k → Full n → HandsOut g rooms s (rest s)
  ends-within zero n h full = ended n full (piece-none n n (omega arith) (is-empty (rest (at n)) h))
  ends-within (suc k) n h full =
      by-empty (piece_at g rooms s n) (ended n full)
      (λ e long.
      let sum : length (piece_at g rooms s n ++ rest (at (suc n))) ≡ length (rest (at n)) = ap length (part-on n) in
      ends-within k (suc n) (omega (arith, h, long, sum, length-append (piece_at g rooms s n) (rest (at (suc n))))) (one_more n full e))

  pub hands_out : HandsOut g rooms s (rest s)
  unfolding before
  hands_out = ends-within (length (rest s)) 0 (omega arith) (λ i h. absurd (omega arith))
