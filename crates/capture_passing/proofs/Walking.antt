-- The walk over the writes that are due: `pass_until`'s invariant and its moves. What is left to pass from here is what the whole passes.
-- Assumes nothing.
use mathlib.Core.Bool.{Bool, true, false, not}
use mathlib.Core.List.{List}
use mathlib.Core.Path.{◌≡◌, refl, sym, ap, ◌∙◌}
use Prim.Native.Nat.{ℕ, suc, ◌+◌, ◌-◌, ◌≤◌, ◌<◌}
use native.Mathlib.Omega.{arith}
use borrow.Author.Tests.{leb-true, leb-false, not-true, not-false}
use Rattle.refusals.specs.Numbers.{accepted}
use Rattle.laws.proofs.Tests.{tests}
use Rattle.chip.specs.declared.Chip.{Chip}
use Rattle.answers.specs.declared.Answered.{Answered}
use Rattle.bus.specs.Passing.{pass_write}
use Rattle.bus_writes.specs.Due.{is_due}
use Rattle.capture_writes.specs.Writes.{WriteTold, write_at}
use Rattle.capture_passing.specs.Due.{stopped, pass_from}
use Rattle.capture_passing.specs.declared.Passing.{Passing}

-- the next write: its lines are bad, it is not yet due, refused, or passed
module _ (text : List ℕ) (end left at : ℕ) (c : Chip) where
  abbrev lines : WriteTold
  lines = write_at text 0 at

  abbrev all : Passing
  all = pass_from text end (suc left) at c

  from-bad : (lines.no ≡ accepted → ⊥) → stopped c at (suc left) lines.no ≡ all
  unfolding pass_from
  from-bad bad = search tests

  module _ (good : lines.no ≡ accepted) where
    pub from-later : end < lines.write.stamp → stopped c at (suc left) accepted ≡ all
    unfolding pass_from
    from-later late = search tests

    module _ (soon : lines.write.stamp ≤ end) where
      pub from-refused : ((pass_write lines.write c).no ≡ accepted → ⊥) → stopped c at (suc left) (pass_write lines.write c).no ≡ all
      unfolding pass_from
      from-refused full = search tests

      pub from-passes : (pass_write lines.write c).no ≡ accepted → pass_from text end left lines.next (pass_write lines.write c).chip ≡ all
      unfolding pass_from
      from-passes taken = search tests

pub record Walking (text : List ℕ) (end n at₀ : ℕ) (c₀ c : Chip) (at k : ℕ) : Type 0 where
  pub rest : pass_from text end (n - k) at c ≡ pass_from text end n at₀ c₀

pub walking_start : (text : List ℕ) (end n at : ℕ) (c : Chip) → Walking text end n at c c at 0
walking_start text end n at c = let z : n - 0 ≡ n = omega arith in record { rest = rw z refl }

module _ {text : List ℕ} {end n at₀ : ℕ} {c₀ c : Chip} {at k : ℕ} (m : Walking text end n at₀ c₀ c at k) where
  pub walked : {r : Passing} → n ≤ k → r ≡ stopped c at 0 accepted → r ≡ pass_from text end n at₀ c₀
  unfolding pass_from
  walked h e =
      let none : n - k ≡ 0 = omega arith in
      e ∙ (rw none at m.rest)

  module _ (some : k < n) {l : WriteTold} (is : l ≡ write_at text 0 at) where
    more : n - k ≡ suc (n - (k + 1))
    more = omega arith

    whole : pass_from text end (suc (n - (k + 1))) at c ≡ pass_from text end n at₀ c₀
    whole = sym (ap (λ (left : ℕ). pass_from text end left at c) more) ∙ m.rest

    pub stops-bad : {r : Passing} → (l.no ≡ accepted → ⊥) → r ≡ stopped c at (n - k) l.no → r ≡ pass_from text end n at₀ c₀
    stops-bad bad e =
        let stop : stopped c at (suc (n - (k + 1))) (write_at text 0 at).no ≡ pass_from text end (suc (n - (k + 1))) at c = from-bad text end (n - (k + 1)) at c (rw is at bad) in
        (rw (is, more) at e) ∙ stop ∙ whole

    module _ (good : l.no ≡ accepted) {due : Bool} (test : due ≡ is_due end l.write) where
      pub stops-later : {r : Passing} → not due ≡ true → r ≡ stopped c at (n - k) accepted → r ≡ pass_from text end n at₀ c₀
      stops-later late e =
          (rw more at e) ∙ from-later text end (n - (k + 1)) at c (rw is at good) (rw is at (leb-false _ end (sym test ∙ not-true due late))) ∙ whole

      module _ (soon : not due ≡ false) {p : Answered} (answer : p ≡ pass_write l.write c) where
        same : p ≡ pass_write (write_at text 0 at).write c
        same = rw is at answer

        within : (write_at text 0 at).write.stamp ≤ end
        within = rw is at (leb-true _ end (sym test ∙ not-false due soon))

        pub stops-refused : {r : Passing} → (p.no ≡ accepted → ⊥) → r ≡ stopped c at (n - k) p.no → r ≡ pass_from text end n at₀ c₀
        stops-refused full e =
            (rw (same, more) at e) ∙ from-refused text end (n - (k + 1)) at c (rw is at good) within (rw same at full) ∙ whole

        pub walking_on : p.no ≡ accepted → Walking text end n at₀ c₀ p.chip l.next (k + 1)
        walking_on taken =
            record { rest = rw (same, is) (from-passes text end (n - (k + 1)) at c (rw is at good) within (rw same at taken) ∙ whole) }
