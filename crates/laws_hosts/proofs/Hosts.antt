-- A host's record holds the chip that the calls leave. A record keeps the chip that is put into it, drum by drum; an accepted call puts
-- its chip there, and a refused one leaves both. Assumes nothing.
use mathlib.Core.List.{List, [], ◌∷◌}
use mathlib.Core.Path.{◌≡◌, refl, sym, ap, ◌∙◌, subst}
use Prim.Native.Nat.{ℕ}
use Rattle.refusals.specs.Numbers.{accepted}
use Rattle.laws.proofs.Tests.{by-eq}
use Rattle.channel.specs.declared.Channel.{Channel}
use Rattle.channel.specs.declared.Drum.{Drum}
use Rattle.channel.specs.declared.Drum.TheVariants.{Off, Sample}
use Rattle.chip.specs.declared.Chip.{Chip}
use Rattle.chip.specs.declared.Core.{Core}
use Rattle.answers.specs.declared.Answered.{Answered}
use Rattle.calls_making.specs.Making.{with_variant}
use Rattle.variants.specs.Variants.{making_no}
use Rattle.c_record.specs.declared.Record.{Record}
use Rattle.c_record.specs.Record.{chip_of, record_of, core_of, record_core, channel_of, record_channel, drum_of, record_drum}
use Rattle.c_told.specs.Told.{lent_back}
use Rattle.laws_promises.specs.History
use Rattle.laws_promises.specs.History.{Call, answers, after, empty_ledger, ledger}
use Rattle.laws_promises.specs.Demand.{Holds}
use Rattle.laws_promises.proofs.Numbered.{numbered}
use Rattle.laws_promises.proofs.Demand.{demand-3}
use Rattle.laws_promises.proofs.Public.{new-begins, clocks-begin, public, refused-begins}
use Rattle.laws_hosts.specs.Hosts.{tells, left_by, made_record, Hosts}

drum-kept : (d : Drum) → drum_of (record_drum d) ≡ d
unfolding drum_of record_drum
drum-kept Off = refl
drum-kept (Sample s) = refl

channel-kept : (x : Channel) → channel_of (record_channel x) ≡ x
channel-kept x = ap (λ (d : Drum). record { muted = x.muted; drum = d; output = x.output; amplitude = x.amplitude }) (drum-kept x.drum)

core-kept : (k : Core) → core_of (record_core k) ≡ k
unfolding core_of record_core
core-kept k = rw (channel-kept k.channels.a, channel-kept k.channels.b, channel-kept k.channels.c) refl

kept : (c : Chip) → chip_of (record_of c) ≡ c
kept c = ap (λ (k : Core). record { core = k; queue = c.queue }) (core-kept c.core)

-- a call that writes the record where it is accepted, and leaves it where it is refused, as the chip then stays
writes : (call : Call) (x : Record)
    → chip_of (lent_back x (answers call (chip_of x)).no (answers call (chip_of x)).chip) ≡ (answers call (chip_of x)).chip
unfolding lent_back
writes call x =
    let a = answers call (chip_of x) in
    by-eq (λ (y : Record). chip_of y ≡ a.chip) a.no accepted (λ _. kept a.chip) (λ f. sym ((numbered call (chip_of x)).stays f))

-- one that reports: its number and its chip are the history's
reported : (call : Call) (x : Record) {a : Answered} → answers call (chip_of x) ≡ a
    → (a.no ≡ (answers call (chip_of x)).no) × (chip_of (lent_back x a.no a.chip) ≡ (answers call (chip_of x)).chip)
reported call x e = (ap (λ (a : Answered). a.no) (sym e), ap (λ (a : Answered). chip_of (lent_back x a.no a.chip)) (sym e) ∙ writes call x)

-- each call: its number is the chip's, and so is what it leaves
one : (call : Call) (x : Record) → ((tells call x).no ≡ (answers call (chip_of x)).no) × (chip_of (tells call x).chip ≡ (answers call (chip_of x)).chip)
unfolding tells answers
one History.reset x = (refl, writes History.reset x)
one (History.write-register register value) x = reported (History.write-register register value) x ((public (chip_of x)).write-register register value)
one (History.load-registers bytes) x = reported (History.load-registers bytes) x ((public (chip_of x)).load-registers bytes)
one (History.write-port port value) x = (refl, writes (History.write-port port value) x)
one (History.write-port-immediate port value) x = reported (History.write-port-immediate port value) x ((public (chip_of x)).write-port-immediate port value)
one (History.set-cpu-cycle cycle) x = (refl, writes (History.set-cpu-cycle cycle) x)
one (History.sync-sample-cycle cycle) x = (refl, writes (History.sync-sample-cycle cycle) x)
one History.flush-pending-writes x = reported History.flush-pending-writes x (public (chip_of x)).flush-pending-writes
one (History.set-timer-irq-state on) x = (refl, writes (History.set-timer-irq-state on) x)
one (History.inside-timer-irq inside) x = (refl, writes (History.inside-timer-irq inside) x)
one History.trigger-envelope x = (refl, writes History.trigger-envelope x)
one (History.set-channel-mute channel muted) x = (refl, writes (History.set-channel-mute channel muted) x)
one (History.set-drum-sample-override channel drum) x = (refl, writes (History.set-drum-sample-override channel drum) x)
one History.compute-next-sample x = (refl, writes History.compute-next-sample x)
one (History.block out) x = (refl, writes (History.block out) x)
one (History.read-register register) x = (refl, refl)
one History.dump-registers x = (refl, refl)
one (History.read-port port) x = (refl, refl)
one History.cpu-cycle x = (refl, refl)
one History.pending-write-count x = (refl, refl)
one (History.is-channel-muted channel) x = (refl, refl)
one History.get-channel-outputs x = (refl, refl)

follows : (calls : List Call) (x : Record) → chip_of (left_by calls x) ≡ after calls (chip_of x)
unfolding left_by after
follows [] x = refl
follows (call ∷ calls) x = follows calls (tells call x).chip ∙ ap (after calls) (one call x).1

begins : (master rate variant : ℕ) → chip_of (made_record master rate variant) ≡ (with_variant master rate variant).chip
begins master rate variant = kept (with_variant master rate variant).chip

-- the demand's history, call by call in the record
demand : (master rate variant : ℕ) → making_no master rate variant ≡ accepted → (calls : List Call)
    → Holds master rate variant (chip_of (left_by calls (made_record master rate variant)))
    (ledger calls (chip_of (made_record master rate variant)) empty_ledger)
demand master rate variant e calls =
    let made = made_record master rate variant in
    subst (λ (d : Chip). Holds master rate variant d (ledger calls (chip_of made) empty_ledger)) (sym (follows calls made))
    (subst (λ (c : Chip). Holds master rate variant (after calls c) (ledger calls c empty_ledger)) (sym (begins master rate variant)) (demand-3 master rate variant e calls))

pub hosts : Hosts
hosts =
    record {
      kept = kept;
      number = λ call x. (one call x).0;
      chip = λ call x. (one call x).1;
      follows = follows;
      begins = begins;
      by-clocks = λ master rate. ap (λ (a : Answered). record_of a.chip) (clocks-begin master rate);
      new = ap record_of new-begins;
      refused = λ master rate variant f. ap record_of (refused-begins master rate variant f);
      demand = demand;
    }
