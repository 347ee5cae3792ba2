-- One more tick of a word's ticking, and what the ticking adds up to. Assumes nothing.
use mathlib.Core.Path.{◌≡◌, refl, sym, ap, ◌∙◌, subst}
use Prim.Native.Nat.{ℕ, zero, suc, ◌+◌, ◌-◌, ◌≤◌, ◌<◌}
use native.Mathlib.Omega.{arith}
use lib.Bits.{bit_or}
use Rattle.laws.proofs.Tests.{on-le, on-gt}
use Rattle.generators.specs.declared.Generators.{Generators}
use Rattle.generators.specs.Generators.{tick, edges_of}
use Rattle.clocking_generators.specs.declared.Turning.{Turning}
use Rattle.clocking_generators.specs.Turning.{Held, shown, turned}
use Rattle.clocking_generators.proofs.Shown.{shown-tick, shown-edges}
use Rattle.gates.specs.declared.Gates.{Gates}
use Rattle.gates.specs.Gates.{gate_of}
use Rattle.clocking_ticks.specs.declared.Ran.{Ran}
use Rattle.clocking_ticks.specs.Ticks.{one_more, taken_off, ticking, ticked}
use Rattle.clocks.specs.Range.{ClocksRun}

module _ (k : ℕ) (gates : Gates) (rate internal : ℕ) (r : Ran) where
  on : r.accumulator + rate < internal → ticking (suc k) gates rate internal r ≡ ticking k gates rate internal (one_more gates rate r)
  unfolding ticking
  on h = sym (on-gt _ _ _ _ _ h refl)

  ends : internal ≤ r.accumulator + rate → ticking (suc k) gates rate internal r ≡ taken_off internal (one_more gates rate r)
  unfolding ticking
  ends h = sym (on-le _ _ _ _ _ h refl)

-- the loop's invariant: what is left to do from here gives what the whole does, and `left` more ticks are enough
pub record Going (gates : Gates) (rate internal : ℕ) (g₀ : Generators) (a₀ : ℕ) (r : Ran) : Type 0 where
  pub clocks : ClocksRun a₀ rate internal
  pub below : r.accumulator < internal
  pub count : r.ticks ≤ r.accumulator
  pub left : ℕ
  pub enough : internal ≤ r.accumulator + left
  pub rest : ticking left gates rate internal r ≡ ticked gates rate internal g₀ a₀

pub going_start : {gates : Gates} {rate internal : ℕ} {g : Generators} {a : ℕ} → ClocksRun a rate internal
    → Going gates rate internal g a (record { generators = g; gate = 0; accumulator = a; ticks = 0 })
unfolding ticked
going_start {gates} {rate} {internal} {g} {a} h =
    record { clocks = h; below = omega arith; count = omega arith; left = internal; enough = omega arith; rest = refl }

-- the fuel that is enough is some k and one more
fuel : (a internal left : ℕ) → a < internal → internal ≤ a + left → (k : ℕ) × (left ≡ suc k)
fuel a internal zero h e = absurd (omega arith)
fuel a internal (suc k) h e = (k, refl)

module _ {gates : Gates} {rate internal : ℕ} {g₀ : Generators} {a₀ : ℕ} {r : Ran} (i : Going gates rate internal g₀ a₀ r) where
  pub going_on : r.accumulator + rate < internal → Going gates rate internal g₀ a₀ (one_more gates rate r)
  going_on h =
      let (k, q) = fuel r.accumulator internal i.left i.below i.enough in
      record {
        clocks = i.clocks;
        below = h;
        count = omega (arith, i.clocks.under, i.count);
        left = k;
        enough = omega (arith, i.clocks.under, i.enough);
        rest = sym (on k gates rate internal r h) ∙ (rw q at i.rest);
      }

  pub going-ends : internal ≤ r.accumulator + rate → taken_off internal (one_more gates rate r) ≡ ticked gates rate internal g₀ a₀
  going-ends h =
      let (k, q) = fuel r.accumulator internal i.left i.below i.enough in
      sym (ends k gates rate internal r h) ∙ (rw q at i.rest)

-- the same as the code has it: the tick, its edges and its gate come from calls
abbrev pub ran_so : Generators → ℕ → ℕ → ℕ → Ran
ran_so g gate accumulator ticks = record { generators = g; gate = gate; accumulator = accumulator; ticks = ticks }

module _ {gates : Gates} {rate internal a₀ sum gate n edges more : ℕ} {g₀ g next : Generators}
    (i : Going gates rate internal g₀ a₀ (ran_so g gate sum n)) (t : next ≡ tick g) (e : edges ≡ edges_of next)
    (m : more ≡ gate_of gates edges next.noise.output) where
  step : ran_so next (bit_or gate more) (sum + rate) (n + 1) ≡ one_more gates rate (ran_so g gate sum n)
  step = rw (m, e, t)

  pub going_next : sum + rate < internal → Going gates rate internal g₀ a₀ (ran_so next (bit_or gate more) (sum + rate) (n + 1))
  going_next h = rw step (going_on i h)

  pub going_done : internal ≤ sum + rate → ran_so next (bit_or gate more) (sum + rate - internal) (n + 1) ≡ ticked gates rate internal g₀ a₀
  going_done h = ap (taken_off internal) step ∙ going-ends i h

-- the same as the code has it: what ticks stands for the generators
pub record Turns (gates : Gates) (rate internal a₀ : ℕ) (t₀ t : Turning) (gate sum n : ℕ) : Type 0 where
  pub held : Held t
  pub going : Going gates rate internal (shown t₀) a₀ (ran_so (shown t) gate sum n)

pub turns-start : {gates : Gates} {rate internal a : ℕ} {t : Turning} → Held t → ClocksRun a rate internal → Turns gates rate internal a t t 0 a 0
turns-start h k = record { held = h; going = going_start k }

module _ {gates : Gates} {rate internal a₀ sum gate n more : ℕ} {t₀ t next : Turning} (i : Turns gates rate internal a₀ t₀ t gate sum n)
    (e : next ≡ turned t) (h : Held next) (m : more ≡ gate_of gates next.edges next.output) where
  ticks : shown next ≡ tick (shown t)
  ticks = ap shown e ∙ shown-tick t

  side : next.edges ≡ edges_of (shown next)
  side = sym (shown-edges next h.edges)

  heard : more ≡ gate_of gates next.edges (shown next).noise.output
  unfolding shown
  heard = m

  pub turns_next : sum + rate < internal → Turns gates rate internal a₀ t₀ next (bit_or gate more) (sum + rate) (n + 1)
  turns_next q = record { held = h; going = going_next i.going ticks side heard q }

  pub turns-done : {g g₀ : Generators} → internal ≤ sum + rate → g ≡ shown next → shown t₀ ≡ g₀
      → ran_so g (bit_or gate more) (sum + rate - internal) (n + 1) ≡ ticked gates rate internal g₀ a₀
  turns-done q same began = rw (same, sym began) (going_done i.going ticks side heard q)

-- the same as the code counts it: `gap` is what the accumulator has left to the internal clock
pub record Closing (gates : Gates) (rate internal a₀ : ℕ) (t₀ t : Turning) (gate gap n : ℕ) : Type 0 where
  pub some : 0 < gap
  pub most : gap ≤ internal
  pub turns : Turns gates rate internal a₀ t₀ t gate (internal - gap) n

pub closing-start : {gates : Gates} {rate internal a : ℕ} {t : Turning} → Held t → ClocksRun a rate internal → Closing gates rate internal a t t 0 (internal - a) 0
closing-start {gates} {rate} {internal} {a} {t} h k =
    let back : a ≡ internal - (internal - a) = omega (arith, k.under, k.slow) in
    record {
      some = omega (arith, k.under, k.slow);
      most = omega arith;
      turns = subst (λ (sum : ℕ). Turns gates rate internal a t t 0 sum 0) back (turns-start h k);
    }

module _ {gates : Gates} {rate internal a₀ gap gate n more : ℕ} {t₀ t next : Turning} (i : Closing gates rate internal a₀ t₀ t gate gap n)
    (e : next ≡ turned t) (h : Held next) (m : more ≡ gate_of gates next.edges next.output) where
  pub closing-next : rate < gap → Closing gates rate internal a₀ t₀ next (bit_or gate more) (gap - rate) (n + 1)
  closing-next q =
      let short : internal - gap + rate < internal = omega (arith, i.most) in
      let same : internal - gap + rate ≡ internal - (gap - rate) = omega (arith, i.most) in
      record {
        some = omega arith;
        most = omega (arith, i.most);
        turns = subst (λ (sum : ℕ). Turns gates rate internal a₀ t₀ next (bit_or gate more) sum (n + 1)) same (turns_next i.turns e h m short);
      }

  pub closing-done : {g g₀ : Generators} → gap ≤ rate → g ≡ shown next → shown t₀ ≡ g₀ → ran_so g (bit_or gate more) (rate - gap) (n + 1) ≡ ticked gates rate internal g₀ a₀
  closing-done {g} {g₀} q same began =
      let reached : internal ≤ internal - gap + rate = omega (arith, i.most) in
      let over : rate - gap ≡ internal - gap + rate - internal = omega (arith, i.most) in
      ap (λ (a : ℕ). ran_so g (bit_or gate more) a (n + 1)) over ∙ turns-done i.turns e h m reached same began
