-- A reset on a chip in range is accepted and begins anew: from there demand 3 holds whole. Assumes nothing.
use mathlib.Core.List.{List, [], ◌∷◌, ◌++◌}
use mathlib.Core.Path.{◌≡◌, refl, sym, ap, subst, ◌∙◌}
use Prim.Native.Nat.{ℕ, ◌*◌, ◌/◌}
use native.Mathlib.Omega.{arith}
use Rattle.refusals.specs.Numbers.{accepted}
use Rattle.queue.specs.Waiting.{waiting}
use Rattle.queue.proofs.Laws.{waiting-empty}
use Rattle.chip.specs.declared.Chip.{Chip}
use Rattle.chip.specs.declared.Clocks.{Clocks}
use Rattle.chip.specs.Clocks.{clocks_of}
use Rattle.chip.proofs.InRange.{InRange, passes}
use Rattle.answers.specs.Answers.{answered}
use Rattle.answers.specs.declared.Answered.{Answered}
use Rattle.calls_making.specs.Making.{reset_of, reset_call}
use Rattle.laws_promises.specs.History.{Call, reset, answers, after, Ledger, empty_ledger, enters, entered, ledger}
use Rattle.laws_promises.specs.Demand.{FromZero, Holds}
use Rattle.laws_promises.proofs.Sounds.{reset-sounds}
use Rattle.laws_promises.proofs.DemandKept.{Keeps, in-range, calls-kept}
use Rattle.laws_promises.proofs.Circling.{calls-circle}
use Rattle.laws_promises.proofs.Demand.{holds}
use Rattle.laws_histories.specs.Claims.{ResetHolds}
use Rattle.laws_histories.proofs.Appending.{after-append, ledger-append}
use Rattle.laws_histories.proofs.Since.{calls-stay}

-- a reset is accepted, and begins anew
module _ (c : Chip) (h : InRange c) where
  resets : answers reset c ≡ answered accepted (reset_of c)
  unfolding answers reset_call
  resets = rw (passes h)

  reset-enters : (l : Ledger) → entered reset c l ≡ empty_ledger
  unfolding entered enters
  reset-enters l = rw (ap (λ (a : Answered). a.no) resets)

  reset-range : InRange (reset_of c)
  reset-range = rw resets at (in-range reset c h)

  reset-anew : ((reset_of c).core.accumulator ≡ 0) × (waiting (reset_of c).queue ≡ [])
  unfolding reset_of
  reset-anew = (refl, waiting-empty)

  -- from there the whole demand holds
  reset-keeps : {master rate : ℕ} → c.core.clocks ≡ clocks_of master rate → Keeps master rate c.core.variant (reset_of c) empty_ledger
  unfolding reset_of
  reset-keeps {master} {rate} e =
      let r = reset-range in
      record {
        range = r;
        clocks = e;
        of-variant = refl;
        agrees = (reset-sounds c.core.voice).0;
        kept = record {
          sum = omega arith;
          below = rw e at r.accumulator;
          small = tt;
          noise = r.voice.generators.noise.some;
          writes = sym waiting-empty;
        };
      }

  reset-from-zero : FromZero (reset_of c)
  unfolding reset_of
  reset-from-zero = (reset-sounds c.core.voice).1

  reset-demand : {master rate : ℕ} → c.core.clocks ≡ clocks_of master rate → (later : List Call)
      → Holds master rate c.core.variant (after later (reset_of c)) (ledger later (reset_of c) empty_ledger)
  reset-demand e later =
      let k = reset-keeps e in
      holds (calls-kept later (reset_of c) empty_ledger k) (calls-circle later (reset_of c) empty_ledger k.range (λ _. reset-from-zero))

-- a record in range has accepted clocks and their quotients
pub quotients : (k : Clocks) → k.internal ≡ k.master / 8 → k.cycles ≡ 4 * k.master / k.rate → k ≡ clocks_of k.master k.rate
quotients k e f = rw (← e, ← f)

module _ (c : Chip) (h : InRange c) (earlier later : List Call) where
  abbrev m : Chip
  m = after earlier c

  range : InRange m
  range = (calls-stay earlier c h).range

  reset-chip : (calls : List Call) → after (earlier ++ reset ∷ calls) c ≡ after calls (reset_of m)
  unfolding after
  reset-chip calls = after-append earlier (reset ∷ calls) c ∙ ap (λ (a : Answered). after calls a.chip) (resets m range)

  reset-ledger : ledger (earlier ++ reset ∷ later) c empty_ledger ≡ ledger later (reset_of m) empty_ledger
  unfolding ledger
  reset-ledger =
      ledger-append earlier (reset ∷ later) c empty_ledger
      ∙ rw (reset-enters m range (ledger earlier c empty_ledger), resets m range)

  reset-left : after (earlier ++ reset ∷ []) c ≡ reset_of m
  unfolding after
  reset-left = reset-chip []

  pub reset-holds : ResetHolds c earlier later
  reset-holds =
      let clocks : m.core.clocks ≡ clocks_of c.core.clocks.master c.core.clocks.rate
      = (calls-stay earlier c h).clocks ∙ quotients c.core.clocks h.internal h.cycles
      in
      record {
        anew = rw reset-left (reset-anew m range).0;
        none = rw reset-left (reset-anew m range).1;
        holds =
            subst (λ (v : ℕ). Holds c.core.clocks.master c.core.clocks.rate v (after (earlier ++ reset ∷ later) c) (ledger (earlier ++ reset ∷ later) c empty_ledger))
            (calls-stay earlier c h).variant (rw (reset-chip later, reset-ledger) (reset-demand m range clocks later));
      }
