-- Any calls on a record in range: what holds since it was handed in, or since the last reset. Assumes nothing.
use mathlib.Core.List.{List, [], ◌∷◌, ◌++◌}
use mathlib.Core.Logic.{inl, inr, ⊎_elim}
use mathlib.Core.Path.{◌≡◌, refl}
use Prim.Native.Nat.{◌+◌, ◌*◌, ◌/◌}
use native.Mathlib.Omega.{arith}
use Rattle.laws.specs.All.{All}
use Rattle.queue.specs.Waiting.{waiting}
use Rattle.chip.specs.declared.Chip.{Chip}
use Rattle.chip.proofs.InRange.{InRange, passes}
use Rattle.variants.proofs.Makings.{variant-passes}
use Rattle.laws_promises.specs.History.{Call, reset, after, Ledger, empty_ledger, ledger}
use Rattle.laws_promises.specs.Demand.{N, T, Small, Kept}
use Rattle.laws_promises.proofs.Numbered.{numbered}
use Rattle.laws_promises.proofs.Circling.{calls-circle}
use Rattle.laws_promises.proofs.Demand.{waiting-served, nothing-changes, counted}
use Rattle.laws_histories.specs.Histories.{NoReset, Began}
use Rattle.laws_histories.specs.Claims.{HandedIn}
use Rattle.laws_histories.proofs.Since.{calls-stay, since-start, since}
use Rattle.laws_histories.proofs.Resets.{quotients, reset-holds}
use Rattle.laws_histories.proofs.Splits.{Split, split-last}

module _ (c : Chip) (h : InRange c) (calls : List Call) where
  abbrev d : Chip
  d = after calls c

  abbrev l : Ledger
  l = ledger calls c empty_ledger

  said : (begun : Chip) → Began calls c begun → All Small l.words
      → T l * c.core.clocks.rate + begun.core.accumulator ≡ N l * (c.core.clocks.master / 8) + d.core.accumulator
      → waiting begun.queue ++ l.accepted ≡ l.applied ++ waiting d.queue
      → HandedIn c calls d l
  said begun began small sum writes =
      let s = calls-stay calls c h in
      let r = s.range in
      let n = r.voice.generators.noise in
      record {
        clocks = s.clocks;
        variant = s.variant;
        accepted-clocks = h.clocks;
        accepted-variant = variant-passes h.variant;
        quotients = quotients c.core.clocks h.internal h.cycles;
        begun = begun;
        began = began;
        sum = omega (arith, sum);
        below = rw s.clocks at r.accumulator;
        writes = cc;
        small = small;
        noise = n.some;
        seventeen = omega (arith, n.narrow);
        never22 = λ x. (numbered x d).fine (passes r);
        refused = nothing-changes d l;
        count = counted d r;
        position = r.voice.generators.envelope.position;
        circles = λ a later. calls-circle later d empty_ledger r (λ _. a);
        served = waiting-served d r;
      }

  from-the-record : All NoReset calls → HandedIn c calls d l
  from-the-record none =
      let s = since calls c empty_ledger none (since-start h) in
      said c (inl (none, refl)) s.small (rw (← h.internal) s.sum) s.writes

  from-a-reset : Split calls → HandedIn c calls d l
  from-a-reset s =
      let r = reset-holds c h s.earlier s.later in
      let k : Kept c.core.clocks.master c.core.clocks.rate d l = rw (← s.split) at r.holds.kept in
      said (after (s.earlier ++ reset ∷ []) c)
      (inr (record { earlier = s.earlier; later = s.later; split = s.split; last = s.last; left = refl }))
      k.small (rw r.anew (omega (arith, k.sum))) (rw r.none k.writes)

  pub handed-in : HandedIn c calls d l
  handed-in = ⊎_elim from-the-record from-a-reset (split-last calls)
