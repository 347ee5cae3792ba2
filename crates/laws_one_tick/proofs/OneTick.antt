-- One tick to a word, from demand 3. Assumes nothing.
use mathlib.Core.Bool.{Bool, cond}
use mathlib.Core.List.{List, []}
use mathlib.Core.Path.{◌≡◌, refl, ap, ◌∙◌, subst}
use Prim.Native.Nat.{ℕ}
use Rattle.refusals.specs.Numbers.{accepted, out_of_range}
use Rattle.laws.specs.All.{All}
use Rattle.clocks.specs.Clocks.{accept_clocks, clocks_no}
use Rattle.chip.specs.declared.Chip.{Chip}
use Rattle.chip.specs.declared.Clocks.{Clocks}
use Rattle.chip.proofs.InRange.{InRange, passes}
use Rattle.chip_parts.specs.Parts.{with_times}
use Rattle.answers.specs.Answers.{answered}
use Rattle.calls_making.specs.Making.{made_of, default_master, default_rate, default_variant, fresh, with_variant}
use Rattle.variants.specs.Variants.{accept_making, variant_in, making_no}
use Rattle.calls_cycles.specs.Cycles.{sync_sample_cycle}
use Rattle.laws_in_range.proofs.CallsInRange.{fresh_kept, with-variant-kept, sync-sample-cycle-kept}
use Rattle.laws_promises.specs.History.{Call, answers, after, empty_ledger, ledger}
use Rattle.laws_promises.proofs.Demand.{demand-3}
use Rattle.laws_promises.proofs.Public.{new-begins, refused-begins}
use Rattle.laws_histories.proofs.Since.{calls-stay}
use Rattle.laws_one_tick.specs.Claims.{AlwaysTickAWord, clock_rate, at_its_clock, synced_at0, NoSync, EndsAt, default_cycles, OneTick}
use Rattle.laws_one_tick.proofs.Ticks.{AtClock, tick-a-word}
use Rattle.laws_one_tick.proofs.Ends.{words-end}

at-its-clock : (master variant : ℕ) → making_no master (clock_rate master) variant ≡ accepted → AlwaysTickAWord (at_its_clock master variant)
unfolding after
at-its-clock master variant e calls =
    let rate = clock_rate master in
    let c = at_its_clock master variant in
    let same : AtClock c = rw (demand-3 master rate variant e []).beyond.clocks in
    tick-a-word c (with-variant-kept master rate variant) same calls rate (demand-3 master rate variant e calls).kept.sum

-- the default rate is the internal clock of the default master
default : AlwaysTickAWord (with_variant default_master default_rate default_variant).chip
unfolding making_no accept_making clocks_no accept_clocks variant_in
default = at-its-clock default_master default_variant refl

-- a chip synced at 0
module _ (c : Chip) (h : InRange c) where
  synced-is : synced_at0 c ≡ with_times 0 0 c
  unfolding answers sync_sample_cycle
  synced-is = ap (λ (t : Bool). (cond t (answered accepted (with_times 0 0 c)) (answered out_of_range c)).chip) (passes h)

  synced-range : InRange (synced_at0 c)
  unfolding answers
  synced-range = sync-sample-cycle-kept h 0

fresh-cycles : fresh.core.clocks.cycles ≡ default_cycles
unfolding fresh made_of
fresh-cycles = refl

default-ends : (calls later : List Call) → All NoSync later → EndsAt default_cycles (ledger later (synced_at0 (after calls fresh)) empty_ledger).words
default-ends calls later p =
    let s = calls-stay calls fresh fresh_kept in
    let c = after calls fresh in
    let synced = synced-is c s.range in
    let start : (synced_at0 c).core.start ≡ 0 = ap (λ (d : Chip). d.core.start) synced in
    let cycles : (synced_at0 c).core.clocks.cycles ≡ default_cycles
    = ap (λ (d : Chip). d.core.clocks.cycles) synced ∙ ap (λ (k : Clocks). k.cycles) s.clocks ∙ fresh-cycles
    in
    subst (λ (n : ℕ). EndsAt n (ledger later (synced_at0 c) empty_ledger).words) cycles
    (words-end later (synced_at0 c) (synced-range c s.range) start p)

pub one-tick : OneTick
one-tick =
    record {
      at-its-clock = at-its-clock;
      default = rw new-begins default;
      refused = λ master rate variant f. rw (refused-begins master rate variant f) default;
      ends = default-ends;
    }
