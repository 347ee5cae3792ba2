-- What the two calls answer: a period that is nearest, and a yes exactly where each is; a period out of range never is. Assumes nothing.
use mathlib.Core.Bool.{Bool, true}
use mathlib.Core.List.{List, [], ◌∷◌}
use mathlib.Core.Path.{◌≡◌, refl, ap}
use Prim.Native.Nat.{ℕ, zero, suc}
use native.Mathlib.Omega.{arith}
use borrow.Author.Tests.{eq-eqb, eqb-true}
use lib.Dec.{eqb}
use lib.ListN.{length}
use Rattle.laws.proofs.Lists.{both-parts, both_true}
use Rattle.laws.specs.All.{every}
use Rattle.laws.proofs.Tests.{by_cond, by-eq}
use Rattle.pitch.specs.Pitch.{master_in, pitch_in, nearest_to, nearest_period, each_nearest, are_nearest}
use Rattle.std.specs.Prelude.{Result, Ok}
use Rattle.refusals.specs.declared.Refusal.{Refusal}
use Rattle.pitch.specs.Claims.{IsNearest, EachIs, Finds, YesExactly, Right, SaysYes}
use Rattle.pitch.proofs.Ranges.{master-is, master-passes, pitch-at, pitches-pass}
use Rattle.pitch.proofs.Walk.{nearest-is, is-nearest}

module _ (master : ℕ) where
  yes-means : (pitches periods : List ℕ) → length pitches ≡ length periods → each_nearest master pitches periods ≡ true → EachIs master pitches periods
  unfolding each_nearest
  yes-means [] periods l e i h = absurd (omega arith)
  yes-means (p ∷ pitches) [] l e i h = absurd (omega arith)
  yes-means (p ∷ pitches) (t ∷ periods) l e zero h =
      rw (eqb-true t (nearest_to master p) (both-parts (eqb t (nearest_to master p)) (each_nearest master pitches periods) e).0) (nearest-is master p)
  yes-means (p ∷ pitches) (t ∷ periods) l e (suc i) h =
      yes-means pitches periods (omega arith) (both-parts (eqb t (nearest_to master p)) (each_nearest master pitches periods) e).1 i (omega arith)

  means-yes : (pitches periods : List ℕ) → EachIs master pitches periods → each_nearest master pitches periods ≡ true
  unfolding each_nearest
  means-yes [] periods f = refl
  means-yes (p ∷ pitches) [] f = refl
  means-yes (p ∷ pitches) (t ∷ periods) f =
      both_true (eq-eqb t (nearest_to master p) (is-nearest master p t (f 0 (omega arith)))) (means-yes pitches periods (λ i h. f (suc i) (omega arith)))

pub yes-exactly : YesExactly
yes-exactly master pitches periods l = (yes-means master pitches periods l, means-yes master pitches periods)

pub finds : Finds
unfolding nearest_period
finds master pitch t =
    by_cond (λ (f : Result ℕ Refusal). f ≡ Ok t → IsNearest master pitch t) (master_in master) _ _
    (λ _. by_cond (λ (f : Result ℕ Refusal). f ≡ Ok t → IsNearest master pitch t) (pitch_in pitch) _ _
    (λ _ e. let z : nearest_to master pitch ≡ t = cc in rw z at (nearest-is master pitch))
    (λ _ e. absurd cc))
    (λ _ e. absurd cc)

module _ (master : ℕ) (pitches periods : List ℕ) where
  said : are_nearest master pitches periods ≡ Ok true → Right master pitches periods
  unfolding are_nearest
  said =
      let P : Result Bool Refusal → Type 0 = λ a. a ≡ Ok true → Right master pitches periods in
      by_cond P (master_in master) _ _
      (λ m. by-eq P (length pitches) (length periods)
      (λ l. by_cond P (every pitch_in pitches) _ _
      (λ p e. record {
        master-in = master-is master m;
        same = l;
        pitches-in = pitch-at pitches p;
        each = yes-means master pitches periods l (let z : each_nearest master pitches periods ≡ true = cc in z);
      })
      (λ _ e. absurd cc))
      (λ _ e. absurd cc))
      (λ _ e. absurd cc)

  says : Right master pitches periods → are_nearest master pitches periods ≡ Ok true
  unfolding are_nearest
  says r =
      rw (master-passes master r.master-in, eq-eqb (length pitches) (length periods) r.same, pitches-pass pitches r.pitches-in)
      (ap (λ (b : Bool). Ok b) (means-yes master pitches periods r.each))

pub says-yes : SaysYes
says-yes master pitches periods = (said master pitches periods, says master pitches periods)
