-- What the tests of master and pitch say. Assumes nothing.
use mathlib.Core.Bool.{Bool, true, false, not}
use mathlib.Core.List.{List, [], ◌∷◌}
use mathlib.Core.Path.{◌≡◌, refl, sym, ◌∙◌}
use Prim.Native.Nat.{ℕ, zero, suc, ◌≤◌, ◌<◌}
use native.Mathlib.Omega.{arith}
use borrow.Author.Tests.{leb-true, le-leb, ltb-false, le-ltb, eqb-false, ne_eqb}
use lib.Dec.{eqb, leb, ltb}
use lib.ListN.{length, get_or}
use Rattle.laws.specs.All.{every}
use Rattle.laws.proofs.Lists.{both-parts, both_true}
use Rattle.laws.proofs.Tests.{by_cond}
use Rattle.pitch.specs.Pitch.{master_in, pitch_in}
use Rattle.pitch.specs.Claims.{MasterIn, PitchIn}

-- what a test said, where the code turns it over
pub was-true : (r : Bool) {t : Bool} → r ≡ t → not r ≡ false → t ≡ true
was-true true e n = sym e
was-true false e n = let z : true ≡ false = n in sym e ∙ sym z

pub was-false : (r : Bool) {t : Bool} → r ≡ t → not r ≡ true → t ≡ false
was-false true e n = let z : false ≡ true = n in sym e ∙ sym z
was-false false e n = sym e

-- no test both holds and fails
pub never : {P : Type 0} → false ≡ true → P
never e = absurd (let z : ◌≡◌ {A = ℕ} 0 1 = cc in omega arith)

pub master-is : (master : ℕ) → master_in master ≡ true → MasterIn master
unfolding master_in
master-is master =
    by_cond (λ (b : Bool). b ≡ true → MasterIn master) (ltb master 8) false (leb master 1073741823) (λ _ e. never e)
    (λ h e. (ltb-false master 8 h, leb-true master 1073741823 e))

pub master-passes : (master : ℕ) → MasterIn master → master_in master ≡ true
unfolding master_in
master-passes master m = rw (le-ltb master 8 m.0, le-leb master 1073741823 m.1)

pub pitch-is : (pitch : ℕ) → pitch_in pitch ≡ true → PitchIn pitch
unfolding pitch_in
pitch-is pitch =
    by_cond (λ (b : Bool). b ≡ true → PitchIn pitch) (eqb pitch 0) false (leb pitch 20000000) (λ _ e. never e)
    (λ h e. (some pitch (eqb-false pitch 0 h), leb-true pitch 20000000 e))
  where
    some : (n : ℕ) → (n ≡ 0 → ⊥) → 1 ≤ n
    some n h = omega arith

pub pitch-passes : (pitch : ℕ) → PitchIn pitch → pitch_in pitch ≡ true
unfolding pitch_in
pitch-passes pitch p = rw (ne_eqb pitch 0 (λ e. omega (arith, p.0, e)), le-leb pitch 20000000 p.1)

-- after the code's tests
pub master-tested : (r : Bool) (master : ℕ) → r ≡ master_in master → not r ≡ false → MasterIn master
master-tested r master e n = master-is master (was-true r e n)

pub pitch-tested : (r : Bool) (pitch : ℕ) → r ≡ pitch_in pitch → not r ≡ false → PitchIn pitch
pitch-tested r pitch e n = pitch-is pitch (was-true r e n)

-- each pitch of a list that passed; and a list passes where each does
pub pitch-at : (s : List ℕ) → every pitch_in s ≡ true → (k : ℕ) → k < length s → PitchIn (get_or s k 0)
pitch-at [] e k h = absurd (omega arith)
pitch-at (p ∷ ps) e zero h = pitch-is p (both-parts (pitch_in p) (every pitch_in ps) e).0
pitch-at (p ∷ ps) e (suc k) h = pitch-at ps (both-parts (pitch_in p) (every pitch_in ps) e).1 k (omega arith)

pub pitches-pass : (s : List ℕ) → ((k : ℕ) → k < length s → PitchIn (get_or s k 0)) → every pitch_in s ≡ true
pitches-pass [] f = refl
pitches-pass (p ∷ ps) f = both_true (pitch-passes p (f 0 (omega arith))) (pitches-pass ps (λ k h. f (suc k) (omega arith)))
