-- A position from 0 up stays so, call after call, until the envelope is restarted. Assumes nothing.
use mathlib.Core.Bool.{false}
use mathlib.Core.List.{List, [], ◌∷◌}
use mathlib.Core.Path.{◌≡◌}
use Rattle.queue.specs.Waiting.{waiting}
use Rattle.chip.specs.declared.Chip.{Chip}
use Rattle.chip.proofs.InRange.{InRange}
use Rattle.calls_making.specs.Making.{reset_of}
use Rattle.calls_cycles.specs.Cycles.{flushed}
use Rattle.laws_promises.specs.History.{Call, flush-pending-writes, answers, after, entries, applied_in, restart_in, Ledger, enters, entered, ledger}
use Rattle.laws_promises.specs.Demand.{FromZero}
use Rattle.laws_promises.proofs.Sounds.{neither, all-leave, leaves-circles, reset-sounds}
use Rattle.laws_promises.proofs.Words.{rendered}
use Rattle.laws_promises.proofs.Deeds.{Deed, rests, flushes, begins, plays, deed}
use Rattle.laws_promises.proofs.DemandKept.{in-range}

abbrev Circling : Chip → Ledger → Type 0
Circling c l = l.restarted ≡ false → FromZero c

flush-circles : (c : Chip) (l : Ledger) → Circling c l → Circling (flushed c) (enters flush-pending-writes c l)
unfolding enters
flush-circles c l k e =
    let (p, q) = neither (restart_in (waiting c.queue)) l.restarted e in
    leaves-circles (all-leave (waiting c.queue) c.core.voice) p (k q)

reset-circles : (c : Chip) → FromZero (reset_of c)
unfolding reset_of
reset-circles c = (reset-sounds c.core.voice).1

module _ {c : Chip} {l : Ledger} (h : InRange c) (k : Circling c l) where
  deed-circles : {x : Call} {d : Chip} {m : Ledger} → Deed x c d l m → Circling d m
  deed-circles (rests s _) e = let (p, q) = s.circles e in q (k p)
  deed-circles (flushes _ f g) e = rw f (flush-circles c l k (rw g at e))
  deed-circles (begins _ f g) e = rw f (reset-circles c)
  deed-circles (plays n f g) e =
      let (p, q) = neither (restart_in (applied_in (entries n c))) l.restarted (rw g at e) in
      rw f ((rendered n c h).circles p (k q))

pub calls-circle : (calls : List Call) (c : Chip) (l : Ledger) → InRange c → Circling c l → Circling (after calls c) (ledger calls c l)
unfolding after ledger
calls-circle [] c l h k = k
calls-circle (x ∷ calls) c l h k =
    calls-circle calls (answers x c).chip (entered x c l) (in-range x c h) (deed-circles h k (deed x c l h))
