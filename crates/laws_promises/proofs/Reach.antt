-- The one hard lemma, on lists alone: what one word does to the write at place i. Either its end reaches the highest of the first
-- i + 1 stamps, and the write is among those due; or it does not, and the write is left, i less as many as were due, with the
-- same stamp to be reached: those taken off ahead of it had stamps below it. So a later end may be anything, a lower one too.
-- Assumes nothing.
use mathlib.Core.List.{List, [], ◌∷◌, ◌++◌}
use mathlib.Core.Path.{◌≡◌, refl, sym, ap, ◌∙◌}
use Prim.Native.Nat.{ℕ, zero, suc, ◌+◌, ◌-◌, max, ◌≤◌, ◌<◌}
use native.Mathlib.Omega.{arith}
use lib.ListN.{length, get_or, length-append, length-drop, get_or-append}
use lib.Seq.{get_or-drop}
use Rattle.laws.proofs.Tests.{by_order}
use Rattle.queue.specs.declared.Write.{Write}
use Rattle.queue.specs.Waiting.{due, late}
use Rattle.queue.proofs.Due.{due-on, due-stops, late-on, late-stops, due-late, late-drop}
use Rattle.laws_promises.specs.History.{Entry}
use Rattle.laws_promises.specs.Demand.{reach, no_write}

-- writes behind do not matter
pub reach-append : (i : ℕ) (l new : List Write) → i < length l → reach i (l ++ new) ≡ reach i l
unfolding reach
reach-append i [] new h = absurd (omega arith)
reach-append zero (w ∷ l) new h = refl
reach-append (suc i) (w ∷ l) new h = rw (reach-append i l new (omega arith))

module _ (end : ℕ) where
  -- its end reaches: the write is due
  pub due-reached : (i : ℕ) (l : List Write) → i < length l → reach i l ≤ end → i < length (due end l)
  unfolding reach
  due-reached i [] h r = absurd (omega arith)
  due-reached zero (w ∷ l) h r = rw (due-on end w l r) (omega arith)
  due-reached (suc i) (w ∷ l) h r =
      let a : w.stamp ≤ end = omega arith in
      let b : i < length (due end l) = due-reached i l (omega arith) (omega arith) in
      rw (due-on end w l a) (omega arith)

  -- it does not: fewer are due, and what is to be reached stays the same
  pub record Passed (i : ℕ) (l : List Write) (d r : List Write) : Type 0 where
    pub few : length d ≤ i
    pub same : reach (i - length d) r ≡ reach i l

  pub due-passed : (i : ℕ) (l : List Write) → i < length l → end < reach i l → Passed i l (due end l) (late end l)
  unfolding reach
  due-passed i [] h r = absurd (omega arith)
  due-passed zero (w ∷ l) h r = rw (due-stops end w l r, late-stops end w l r) (record { few = omega arith; same = refl })
  due-passed (suc i) (w ∷ l) h r =
      by_order w.stamp end
      (λ a.
      let p : Passed i l (due end l) (late end l) = due-passed i l (omega arith) (omega arith) in
      let less : suc i - suc (length (due end l)) ≡ i - length (due end l) = omega arith in
      let most : reach i l ≡ max w.stamp (reach i l) = omega arith in
      rw (due-on end w l a, late-on end w l a)
      (record { few = omega (arith, p.few); same = ap (λ (n : ℕ). reach n (late end l)) less ∙ p.same ∙ most }))
      (λ a.
      let all : suc i - 0 ≡ suc i = omega arith in
      rw (due-stops end w l a, late-stops end w l a) (record { few = omega arith; same = ap (λ (n : ℕ). reach n (w ∷ l)) all }))

  -- the writes due and left are those of the list, at their places
  due-at : (i : ℕ) (l : List Write) → i < length (due end l) → get_or (due end l) i no_write ≡ get_or l i no_write
  due-at i l h = sym (get_or-append (due end l) (late end l) no_write i h) ∙ ap (λ (m : List Write). get_or m i no_write) (due-late end l)

  late-at : (i : ℕ) (l : List Write) → i < length l → length (due end l) ≤ i
      → (i - length (due end l) < length (late end l)) × (get_or (late end l) (i - length (due end l)) no_write ≡ get_or l i no_write)
  late-at i l h k =
      let n : ℕ = length (due end l) in
      let back : n + (i - n) ≡ i = omega arith in
      rw late-drop (rw length-drop (omega arith), get_or-drop n l (i - n) no_write ∙ ap (λ (m : ℕ). get_or l m no_write) back)

-- what a word does to the write at place i of the list `first`, if `left` is left
pub data Outcome (first : List Write) (i : ℕ) (x : Entry) (left : List Write) : Type 0 where
  reached : reach i first ≤ x.end → i < length x.applied → get_or x.applied i no_write ≡ get_or first i no_write → Outcome first i x left
  passed : x.end < reach i first → length x.applied ≤ i → i - length x.applied < length left
      → reach (i - length x.applied) left ≡ reach i first → get_or left (i - length x.applied) no_write ≡ get_or first i no_write
      → Outcome first i x left

module _ (first new : List Write) (i : ℕ) (h : i < length first) where
  -- one list long: the writes accepted in between stand behind
  behind : (i < length (first ++ new)) × (reach i (first ++ new) ≡ reach i first) × (get_or (first ++ new) i no_write ≡ get_or first i no_write)
  behind = (rw length-append (omega arith), reach-append i first new h, get_or-append first new no_write i h)

  pub outcome : (x : Entry) → x.applied ≡ due x.end (first ++ new) → Outcome first i x (late x.end (first ++ new))
  outcome x e =
      let (long, same, it) = behind in
      let l : List Write = first ++ new in
      by_order (reach i first) x.end
      (λ r.
      let d : i < length (due x.end l) = due-reached x.end i l long (rw same r) in
      reached r (rw e d) (rw e (due-at x.end i l d ∙ it)))
      (λ r.
      let p : Passed x.end i l (due x.end l) (late x.end l) = due-passed x.end i l long (rw same r) in
      let a = late-at x.end i l long p.few in
      passed r (rw e p.few) (rw e a.0) (rw e (p.same ∙ same)) (rw e (a.1 ∙ it)))
