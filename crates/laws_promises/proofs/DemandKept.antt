-- Each call keeps what the demand says of the chip and its ledger; so do any calls. Assumes nothing.
use mathlib.Core.List.{List, [], ◌∷◌, ◌++◌, append_assoc, append-nil}
use mathlib.Core.Path.{◌≡◌, refl, sym, ◌∙◌}
use Prim.Native.Nat.{ℕ, ◌+◌, ◌*◌, ◌/◌, ◌≤◌, ◌<◌}
use native.Mathlib.Nat.{add-mul}
use native.Mathlib.Omega.{arith}
use lib.ListN.{length, length-append}
use Rattle.laws.proofs.Lists.{all_append}
use Rattle.noise.specs.Course.{Agrees}
use Rattle.queue.specs.Waiting.{waiting}
use Rattle.queue.proofs.Laws.{waiting-empty, waiting-emptied}
use Rattle.chip.specs.declared.Chip.{Chip}
use Rattle.clocks.specs.Clocks.{clocks_no}
use Rattle.chip.specs.Clocks.{clocks_of}
use Rattle.chip.proofs.InRange.{InRange}
use Rattle.calls_making.specs.Making.{made_of, reset_of}
use Rattle.calls_cycles.specs.Cycles.{flushed}
use Rattle.laws_in_range.proofs.CallsInRange as Calls
use Rattle.laws_promises.specs.History
use Rattle.laws_promises.specs.History.{Call, answers, after, Entry, ticks_in, applied_in, Ledger, empty_ledger, renders, enters, entered, ledger}
use Rattle.laws_promises.specs.Demand.{Small, noise_of, Kept}
use Rattle.laws_promises.proofs.Sounds.{all-leave, leaves-agrees, reset-sounds}
use Rattle.laws_promises.proofs.Words.{Rendered, rendered}
use Rattle.laws_promises.proofs.Deeds.{Still, Deed, rests, flushes, begins, plays, deed}

-- with what a call needs of its chip
pub record Keeps (master rate variant : ℕ) (c : Chip) (l : Ledger) : Type 0 where
  pub range : InRange c
  pub clocks : c.core.clocks ≡ clocks_of master rate
  pub of-variant : c.core.variant ≡ variant
  pub agrees : Agrees (noise_of c)
  pub kept : Kept master rate c l

pub ticks-append : (a b : List Entry) → ticks_in (a ++ b) ≡ ticks_in a + ticks_in b
ticks-append [] b = omega arith
ticks-append (w ∷ a) b = omega (arith, ticks-append a b)

-- the accumulator of a chip in range
below-rate : {master rate : ℕ} {c : Chip} → InRange c → c.core.clocks ≡ clocks_of master rate → c.core.accumulator < rate
below-rate r e = rw e at r.accumulator

module _ {master rate variant : ℕ} {c : Chip} {l : Ledger} (k : Keeps master rate variant c l) where
  -- the sums add up, and what the words apply was waiting
  words-kept : {d : Chip} {ws : List Entry} → Rendered c d ws → Keeps master rate variant d (renders ws l)
  words-kept {d} {ws} b =
      let was = k.kept in
      let clocks : d.core.clocks ≡ clocks_of master rate = b.clocks ∙ k.clocks in
      let sum : ticks_in ws * rate + c.core.accumulator ≡ length ws * (master / 8) + d.core.accumulator = rw k.clocks at b.sum in
      let ticks : ticks_in (l.words ++ ws) * rate ≡ ticks_in l.words * rate + ticks_in ws * rate = rw ticks-append (add-mul _ _ rate) in
      let words : length (l.words ++ ws) * (master / 8) ≡ length l.words * (master / 8) + length ws * (master / 8)
      = rw length-append (add-mul _ _ (master / 8))
      in
      record {
        range = b.ok;
        clocks = clocks;
        of-variant = b.variant ∙ k.of-variant;
        agrees = b.agrees k.agrees;
        kept = record {
          sum = omega (arith, was.sum);
          below = below-rate b.ok clocks;
          small = all_append Small l.words ws was.small b.small;
          noise = b.ok.voice.generators.noise.some;
          writes = cc (b.order, append_assoc l.applied (applied_in ws) (waiting d.queue));
        };
      }

  -- no word, and nothing applied
  still_kept : {d : Chip} {m : Ledger} → InRange d → Still c d l m → Keeps master rate variant d m
  still_kept {d} {m} r s =
      let was = k.kept in
      let clocks : d.core.clocks ≡ clocks_of master rate = s.clocks ∙ k.clocks in
      record {
        range = r;
        clocks = clocks;
        of-variant = s.variant ∙ k.of-variant;
        agrees = s.agrees k.agrees;
        kept = record {
          sum = rw (s.words, s.accumulator) was.sum;
          below = below-rate r clocks;
          small = rw s.words was.small;
          noise = r.voice.generators.noise.some;
          writes = cc (append_assoc l.applied (waiting c.queue) s.new);
        };
      }

  -- a flush applies what waits
  flush-kept : InRange (flushed c) → Keeps master rate variant (flushed c) (enters History.flush-pending-writes c l)
  unfolding enters
  flush-kept r =
      let was = k.kept in
      record {
        range = r;
        clocks = k.clocks;
        of-variant = k.of-variant;
        agrees = leaves-agrees (all-leave (waiting c.queue) c.core.voice) k.agrees;
        kept = record {
          sum = was.sum;
          below = was.below;
          small = was.small;
          noise = r.voice.generators.noise.some;
          writes = rw (waiting-emptied c.queue, append-nil) was.writes;
        };
      }

  -- a reset begins anew
  reset-kept : InRange (reset_of c) → Keeps master rate variant (reset_of c) (enters History.reset c l)
  unfolding reset_of enters
  reset-kept r =
      record {
        range = r;
        clocks = k.clocks;
        of-variant = k.of-variant;
        agrees = (reset-sounds c.core.voice).0;
        kept = record {
          sum = omega arith;
          below = below-rate r k.clocks;
          small = tt;
          noise = r.voice.generators.noise.some;
          writes = sym waiting-empty;
        };
      }

  deed-kept : {x : Call} {d : Chip} {m : Ledger} → InRange d → Deed x c d l m → Keeps master rate variant d m
  deed-kept r (rests s _) = still_kept r s
  deed-kept r (flushes _ e f) = rw (e, f) (flush-kept (rw e at r))
  deed-kept r (begins _ e f) = rw (e, f) (reset-kept (rw e at r))
  deed-kept r (plays n e f) = rw (e, f) (words-kept (rendered n c k.range))

-- every call leaves the chip in range
pub in-range : (x : Call) (c : Chip) → InRange c → InRange (answers x c).chip
unfolding answers
in-range History.reset c h = Calls.reset-kept h
in-range (History.write-register register value) c h = Calls.write-register-kept h register value
in-range (History.load-registers bytes) c h = Calls.load-registers-kept h bytes
in-range (History.write-port port value) c h = Calls.write-port-kept h port value
in-range (History.write-port-immediate port value) c h = Calls.write-port-immediate-kept h port value
in-range (History.set-cpu-cycle cycle) c h = Calls.set-cpu-cycle-kept h cycle
in-range (History.sync-sample-cycle cycle) c h = Calls.sync-sample-cycle-kept h cycle
in-range History.flush-pending-writes c h = Calls.flush-kept h
in-range (History.set-timer-irq-state on) c h = Calls.set-timer-irq-state-kept h on
in-range (History.inside-timer-irq inside) c h = Calls.set-timer-irq-state-kept h inside
in-range History.trigger-envelope c h = Calls.trigger-envelope-kept h
in-range (History.set-channel-mute channel muted) c h = Calls.set-channel-mute-kept h channel muted
in-range (History.set-drum-sample-override channel drum) c h = Calls.set-drum-kept h channel drum
in-range History.compute-next-sample c h = Calls.sample-kept h
in-range (History.block out) c h = Calls.block-kept (length out) h
in-range (History.read-register register) c h = h
in-range History.dump-registers c h = h
in-range (History.read-port port) c h = h
in-range History.cpu-cycle c h = h
in-range History.pending-write-count c h = h
in-range (History.is-channel-muted channel) c h = h
in-range History.get-channel-outputs c h = h

pub calls-kept : {master rate variant : ℕ} (calls : List Call) (c : Chip) (l : Ledger) → Keeps master rate variant c l
    → Keeps master rate variant (after calls c) (ledger calls c l)
unfolding after ledger
calls-kept [] c l k = k
calls-kept (x ∷ calls) c l k =
    calls-kept calls (answers x c).chip (entered x c l) (deed-kept k (in-range x c k.range) (deed x c l k.range))

-- a new chip
pub made_kept : (master rate variant : ℕ) → clocks_no master rate ≡ 0 → variant ≤ 2 → Keeps master rate variant (made_of (clocks_of master rate) variant) empty_ledger
unfolding made_of
made_kept master rate variant e v =
    let r = Calls.made_kept master rate variant e v in
    record {
      range = r;
      clocks = refl;
      of-variant = refl;
      agrees = (reset-sounds _).0;
      kept = record {
        sum = omega arith;
        below = r.accumulator;
        small = tt;
        noise = r.voice.generators.noise.some;
        writes = sym waiting-empty;
      };
    }
