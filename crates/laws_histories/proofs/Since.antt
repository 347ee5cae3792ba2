-- Calls on a chip in range: the clocks and the variant stay, and with no reset among the calls the sums and the writes count from its beginning.
-- Assumes nothing.
use mathlib.Core.List.{List, [], ◌∷◌, ◌++◌, append_assoc, append-nil}
use mathlib.Core.Path.{◌≡◌, refl, ◌∙◌}
use Prim.Native.Nat.{◌+◌, ◌*◌}
use native.Mathlib.Nat.{add-mul}
use native.Mathlib.Omega.{arith}
use lib.ListN.{length, length-append}
use Rattle.laws.specs.All.{All}
use Rattle.laws.proofs.Lists.{all_append}
use Rattle.queue.specs.Waiting.{waiting}
use Rattle.queue.proofs.Laws.{waiting-emptied}
use Rattle.chip.specs.declared.Chip.{Chip}
use Rattle.chip.proofs.InRange.{InRange}
use Rattle.calls_making.specs.Making.{reset_of}
use Rattle.calls_cycles.specs.Cycles.{flushed}
use Rattle.laws_promises.specs.History.{Call, flush-pending-writes, answers, after, Entry, ticks_in, applied_in, Ledger, empty_ledger, renders, enters, entered, ledger}
use Rattle.laws_promises.specs.Demand.{N, T, Small}
use Rattle.laws_promises.proofs.Words.{Rendered, rendered}
use Rattle.laws_promises.proofs.Deeds.{Still, Deed, rests, flushes, begins, plays, deed}
use Rattle.laws_promises.proofs.DemandKept.{ticks-append, in-range}
use Rattle.laws_histories.specs.Histories.{NoReset}

-- the clocks and the variant stay, whatever is called
deed-clocks : {x : Call} {c d : Chip} {l m : Ledger} → InRange c → Deed x c d l m → d.core.clocks ≡ c.core.clocks
unfolding reset_of
deed-clocks h (rests s _) = s.clocks
deed-clocks h (flushes _ e _) = rw e
deed-clocks h (begins _ e _) = rw e
deed-clocks {x} {c} h (plays n e _) = rw e (rendered n c h).clocks

deed-variant : {x : Call} {c d : Chip} {l m : Ledger} → InRange c → Deed x c d l m → d.core.variant ≡ c.core.variant
unfolding reset_of
deed-variant h (rests s _) = s.variant
deed-variant h (flushes _ e _) = rw e
deed-variant h (begins _ e _) = rw e
deed-variant {x} {c} h (plays n e _) = rw e (rendered n c h).variant

pub record Stays (c d : Chip) : Type 0 where
  pub range : InRange d
  pub clocks : d.core.clocks ≡ c.core.clocks
  pub variant : d.core.variant ≡ c.core.variant

pub calls-stay : (calls : List Call) (c : Chip) → InRange c → Stays c (after calls c)
unfolding after
calls-stay [] c h = record { range = h; clocks = refl; variant = refl }
calls-stay (x ∷ calls) c h =
    let s = calls-stay calls (answers x c).chip (in-range x c h) in
    let d = deed x c empty_ledger h in
    record { range = s.range; clocks = s.clocks ∙ deed-clocks h d; variant = s.variant ∙ deed-variant h d }

-- with no reset, the sums count from the beginning
pub record Since (begun c : Chip) (l : Ledger) : Type 0 where
  pub range : InRange c
  pub clocks : c.core.clocks ≡ begun.core.clocks
  pub sum : T l * begun.core.clocks.rate + begun.core.accumulator ≡ N l * begun.core.clocks.internal + c.core.accumulator
  pub small : All Small l.words
  pub writes : waiting begun.queue ++ l.accepted ≡ l.applied ++ waiting c.queue

pub since-start : {c : Chip} → InRange c → Since c c empty_ledger
since-start {c} h = record { range = h; clocks = refl; sum = omega arith; small = tt; writes = append-nil (waiting c.queue) }

module _ {begun c : Chip} {l : Ledger} (k : Since begun c l) where
  words-since : {d : Chip} {ws : List Entry} → Rendered c d ws → Since begun d (renders ws l)
  words-since {d} {ws} b =
      let rate = begun.core.clocks.rate in
      let internal = begun.core.clocks.internal in
      let sum : ticks_in ws * rate + c.core.accumulator ≡ length ws * internal + d.core.accumulator = rw k.clocks at b.sum in
      let ticks : ticks_in (l.words ++ ws) * rate ≡ ticks_in l.words * rate + ticks_in ws * rate = rw ticks-append (add-mul _ _ rate) in
      let words : length (l.words ++ ws) * internal ≡ length l.words * internal + length ws * internal
      = rw length-append (add-mul _ _ internal)
      in
      record {
        range = b.ok;
        clocks = b.clocks ∙ k.clocks;
        sum = omega (arith, k.sum);
        small = all_append Small l.words ws k.small b.small;
        writes = cc (b.order, append_assoc l.applied (applied_in ws) (waiting d.queue));
      }

  still-since : {d : Chip} {m : Ledger} → InRange d → Still c d l m → Since begun d m
  still-since {d} {m} r s =
      record {
        range = r;
        clocks = s.clocks ∙ k.clocks;
        sum = rw (s.words, s.accumulator) k.sum;
        small = rw s.words k.small;
        writes = cc (append_assoc (waiting begun.queue) l.accepted s.new, append_assoc l.applied (waiting c.queue) s.new);
      }

  flush-since : InRange (flushed c) → Since begun (flushed c) (enters flush-pending-writes c l)
  unfolding enters
  flush-since r =
      record {
        range = r;
        clocks = k.clocks;
        sum = k.sum;
        small = k.small;
        writes = rw (waiting-emptied c.queue, append-nil) k.writes;
      }

  deed-since : {x : Call} {d : Chip} {m : Ledger} → NoReset x → InRange d → Deed x c d l m → Since begun d m
  deed-since p r (rests s _) = still-since r s
  deed-since p r (flushes _ e f) = rw (e, f) (flush-since (rw e at r))
  deed-since p r (begins e _ _) = absurd (p e)
  deed-since p r (plays n e f) = rw (e, f) (words-since (rendered n c k.range))

pub since : {begun : Chip} (calls : List Call) (c : Chip) (l : Ledger) → All NoReset calls → Since begun c l → Since begun (after calls c) (ledger calls c l)
unfolding after ledger
since [] c l p k = k
since (x ∷ calls) c l p k =
    since calls (answers x c).chip (entered x c l) p.1 (deed-since k p.0 (in-range x c k.range) (deed x c l k.range))
