-- What a walk from 2 upwards finds, and that it is the one period of which the claim holds. Assumes nothing.
use mathlib.Core.Path.{◌≡◌, sym}
use Prim.Native.Nat.{ℕ, zero, suc, ◌+◌, ◌*◌, ◌≤◌, ◌<◌}
use native.Mathlib.Nat.{le_refl, le_antisymm}
use native.Mathlib.Omega.{arith}
use borrow.Author.Tests.{ltb-true, ltb-false}
use Rattle.laws.proofs.Tests.{by_cond, by_order}
use Rattle.pitch.specs.Pitch.{off, nearer, nearest_of, nearest_to}
use Rattle.pitch.specs.Claims.{IsNearest, NearestIs, OneNearest}
use Rattle.pitch.proofs.Fractions.{lt-chain}

-- of the periods 2 to n + 2
pub record Best (n master pitch t : ℕ) : Type 0 where
  pub least : 2 ≤ t
  pub most : t ≤ n + 2
  pub none : (s : ℕ) → 2 ≤ s → s ≤ n + 2 → off master pitch t * s ≤ off master pitch s * t
  pub smaller : (s : ℕ) → 2 ≤ s → s ≤ n + 2 → off master pitch t * s ≡ off master pitch s * t → t ≤ s

module _ (master pitch : ℕ) where
  first : Best 0 master pitch 2
  first =
      record {
        least = omega arith;
        most = omega arith;
        none = λ s h k. rw (two s h k) (le_refl _);
        smaller = λ s h k e. h;
      }
    where
      two : (s : ℕ) → 2 ≤ s → s ≤ 0 + 2 → s ≡ 2
      two s h k = omega arith

  -- the next period is nearer than the best so far
  takes : (n t : ℕ) → Best n master pitch t → off master pitch (n + 3) * t < off master pitch t * (n + 3) → Best (suc n) master pitch (n + 3)
  takes n t b h =
      record {
        least = omega arith;
        most = omega arith;
        none = λ s k l. by_order s (n + 2) (λ m. below s (strict s k m)) (λ m. rw (same s l m) (le_refl _));
        smaller = λ s k l e. by_order s (n + 2) (λ m. absurd (never s (strict s k m) e)) (λ m. omega arith);
      }
    where
      strict : (s : ℕ) → 2 ≤ s → s ≤ n + 2 → off master pitch (n + 3) * s < off master pitch s * (n + 3)
      strict s k m = lt-chain (off master pitch (n + 3)) (off master pitch t) (off master pitch s) (n + 3) t s (omega arith) h (b.none s k m)

      below : (s : ℕ) → off master pitch (n + 3) * s < off master pitch s * (n + 3) → off master pitch (n + 3) * s ≤ off master pitch s * (n + 3)
      below s k = omega arith

      never : (s : ℕ) → off master pitch (n + 3) * s < off master pitch s * (n + 3) → off master pitch (n + 3) * s ≡ off master pitch s * (n + 3) → ⊥
      never s k e = omega arith

      same : (s : ℕ) → s ≤ suc n + 2 → n + 2 < s → s ≡ n + 3
      same s l m = omega arith

  -- it is not
  stays : (n t : ℕ) → Best n master pitch t → off master pitch t * (n + 3) ≤ off master pitch (n + 3) * t → Best (suc n) master pitch t
  stays n t b h =
      record {
        least = b.least;
        most = omega (arith, b.most);
        none = λ s k l. by_order s (n + 2) (λ m. b.none s k m) (λ m. rw (same s l m) h);
        smaller = λ s k l e. by_order s (n + 2) (λ m. b.smaller s k m e) (λ m. omega (arith, b.most));
      }
    where
      same : (s : ℕ) → s ≤ suc n + 2 → n + 2 < s → s ≡ n + 3
      same s l m = omega arith

  pub best : (n : ℕ) → Best n master pitch (nearest_of n master pitch)
  unfolding nearest_of
  best zero = first
  best (suc n) =
      let t = nearest_of n master pitch in
      by_cond (Best (suc n) master pitch) (nearer master pitch (n + 3) t) (n + 3) t (λ e. takes n t (best n) (ltb-true _ _ e))
      (λ e. stays n t (best n) (ltb-false _ _ e))

pub nearest-is : NearestIs
unfolding nearest_to
nearest-is master pitch =
    let b = best master pitch 4093 in
    record {
      playable = (b.least, b.most);
      none-nearer = λ s p. b.none s p.0 p.1;
      smaller = λ s p e. b.smaller s p.0 p.1 e;
    }

pub one-nearest : OneNearest
one-nearest master pitch s t a b =
    let e : off master pitch s * t ≡ off master pitch t * s = le_antisymm (a.none-nearer t b.playable) (b.none-nearer s a.playable) in
    le_antisymm (a.smaller t b.playable e) (b.smaller s a.playable (sym e))

-- so what is nearest is what the definition gives
pub is-nearest : (master pitch t : ℕ) → IsNearest master pitch t → t ≡ nearest_to master pitch
is-nearest master pitch t h = one-nearest master pitch t (nearest_to master pitch) h (nearest-is master pitch)
