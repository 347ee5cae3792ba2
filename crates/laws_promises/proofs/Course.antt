-- The course of a queue between words: between two words writes are appended, and a word takes off what is due. By recursion on
-- the words, `Outcome` at each gives the demand's last sentence. Assumes nothing.
use mathlib.Core.List.{List, [], ◌∷◌, ◌++◌, append_assoc}
use mathlib.Core.Logic.{◌↔◌}
use mathlib.Core.Path.{◌≡◌, sym, ◌∙◌}
use Prim.Native.Nat.{ℕ, ◌-◌, ◌≤◌, ◌<◌}
use native.Mathlib.Omega.{arith}
use lib.ListN.{length, get_or, length-append, get_or-append}
use Rattle.queue.specs.declared.Write.{Write}
use Rattle.queue.specs.Waiting.{due, late}
use Rattle.laws_promises.specs.History.{Entry, applied_in}
use Rattle.laws_promises.specs.Demand.{reach, no_write, Stands, Waits, AppliedBy, NoneReaches, FirstToReach, Served}
use Rattle.laws_promises.proofs.Reach.{Outcome, reached, passed, outcome}

-- `first` comes to `now` by the words, with writes appended before, between and behind them
abbrev pub Course : List Entry → List Write → List Write → Type 0
Course [] first now = (new : List Write) × (now ≡ first ++ new)
Course (x ∷ ws) first now = (new : List Write) × (x.applied ≡ due x.end (first ++ new)) × Course ws (late x.end (first ++ new)) now

-- writes appended ahead of a course
pub course-behind : (ws : List Entry) (first new now : List Write) → Course ws (first ++ new) now → Course ws first now
course-behind [] first new now (more, e) = (new ++ more, e ∙ append_assoc first new more)
course-behind (x ∷ ws) first new now (more, e, r) = (new ++ more, rw (← append_assoc) e, rw (← append_assoc) r)

pub course-join : (a b : List Entry) (first mid now : List Write) → Course a first mid → Course b mid now → Course (a ++ b) first now
course-join [] b first mid now (new, e) r = course-behind b first new now (rw e at r)
course-join (x ∷ a) b first mid now (new, e, q) r = (new, e, course-join a b _ mid now q r)

-- behind a word that did not reach, the write stands where it stood, as many places nearer as the word applied
stands_on : {first left now : List Write} (i : ℕ) (a b : List Write) → length a ≤ i → get_or left (i - length a) no_write ≡ get_or first i no_write
    → Stands first i (length (a ++ b)) now ↔ Stands left (i - length a) (length b) now
stands_on {first} {left} {now} i a b few it =
    let place : i - length (a ++ b) ≡ i - length a - length b = rw length-append (omega arith) in
    let both = length-append a b in (
      λ s. record { yet = omega (arith, s.yet); there = rw place at s.there; it = (rw place at s.it) ∙ sym it },
      λ s. record { yet = omega (arith, s.yet); there = rw place s.there; it = rw place (s.it ∙ it) },
    )

module _ {first left : List Write} {i : ℕ} {x : Entry} where
  waits-on : {now : List Write} (ws : List Entry) → Outcome first i x left
      → ((j : ℕ) → j < length left → Waits left j ws now ↔ NoneReaches (reach j left) ws)
      → Waits first i (x ∷ ws) now ↔ NoneReaches (reach i first) (x ∷ ws)
  waits-on ws (reached r d it) rest =
      (λ s. absurd (omega (arith, s.yet, length-append x.applied (applied_in ws))), λ n. absurd (omega (arith, n.0)))
  waits-on ws (passed r few there same it) rest =
      let on = stands_on i x.applied (applied_in ws) few it in
      let k = rw same at (rest (i - length x.applied) there) in
      (λ s. (r, k.0 (on.0 s)), λ n. on.1 (k.1 n.1))

  applied-here : Outcome first i x left → AppliedBy first i [] x ↔ FirstToReach (reach i first) [] x
  applied-here (reached r d it) =
      let e : i - 0 ≡ i = omega arith in
      (λ s. record { none = tt; reaches = omega arith }, λ f. record { yet = omega arith; there = omega arith; it = rw e it })
  applied-here (passed r few there same it) = (λ s. absurd (omega (arith, s.there)), λ f. absurd (omega (arith, f.reaches)))

  applied-on : (before : List Entry) (y : Entry) → Outcome first i x left
      → ((j : ℕ) → j < length left → AppliedBy left j before y ↔ FirstToReach (reach j left) before y)
      → AppliedBy first i (x ∷ before) y ↔ FirstToReach (reach i first) (x ∷ before) y
  applied-on before y (reached r d it) rest =
      (λ s. absurd (omega (arith, s.yet, length-append x.applied (applied_in before))), λ f. absurd (omega (arith, f.none.0)))
  applied-on before y (passed r few there same it) rest =
      let on = stands_on i x.applied (applied_in before) few it in
      let k = rw same at (rest (i - length x.applied) there) in (
        λ s. let f = k.0 (on.0 s) in record { none = (r, f.none); reaches = f.reaches },
        λ f. on.1 (k.1 (record { none = f.none.1; reaches = f.reaches })),
      )

course-waits : (ws : List Entry) (first now : List Write) (i : ℕ) → i < length first → Course ws first now
    → Waits first i ws now ↔ NoneReaches (reach i first) ws
course-waits [] first now i h (new, e) =
    let back : i - 0 ≡ i = omega arith in (
      λ s. tt,
      λ n. record { yet = omega arith; there = rw (e, length-append) (omega arith); it = rw (e, back) (get_or-append first new no_write i h) },
    )
course-waits (x ∷ ws) first now i h (new, e, r) =
    waits-on ws (outcome first new i h x e) (λ j k. course-waits ws (late x.end (first ++ new)) now j k r)

course-applied : (before after : List Entry) (y : Entry) (first now : List Write) (i : ℕ) → i < length first → Course (before ++ y ∷ after) first now
    → AppliedBy first i before y ↔ FirstToReach (reach i first) before y
course-applied [] after y first now i h (new, e, r) = applied-here (outcome first new i h y e)
course-applied (x ∷ before) after y first now i h (new, e, r) =
    applied-on before y (outcome first new i h x e) (λ j k. course-applied before after y (late x.end (first ++ new)) now j k r)

pub course-served : {ws : List Entry} {first now : List Write} (i : ℕ) → i < length first → Course ws first now → Served first i ws now
course-served {ws} {first} {now} i h r =
    record {
      applied = λ before after x e. course-applied before after x first now i h (rw e at r);
      waits = course-waits ws first now i h r;
    }
