-- What the test of a record says, part by part, and back. Assumes nothing.
use mathlib.Core.Bool.{true}
use mathlib.Core.Path.{◌≡◌, refl}
use Prim.Native.Nat.{ℕ, ◌*◌, ◌/◌, ◌≤◌, ◌<◌}
use native.Mathlib.Nat.{lt_of_le_of_lt, div-le_self}
use native.Mathlib.Omega.{arith}
use borrow.Author.Tests.{leb-true, ltb-true, eqb-true, le-leb, lt-ltb, eq-eqb}
use lib.Dec.{leb, ltb, eqb}
use lib.ListN.{length}
use Rattle.laws.proofs.Lists.{both-parts, both_true}
use Rattle.registers.specs.Range.{VoiceInRange}
use Rattle.voice_range.specs.Range.{voice_in}
use Rattle.voice_range.proofs.InRange.{voice-passed, voice-passes}
use Rattle.queue.specs.Waiting.{queue_in, QueueInRange}
use Rattle.queue.proofs.Range.{queue-passed, queue-passes}
use Rattle.chip.specs.declared.Chip.{Chip}
use Rattle.chip.specs.Range.{CoreInRange, clocks_in, core_in, chip_in}
use Rattle.clocks.specs.Clocks.{clocks_no}
use Rattle.variants.specs.Variants.{variant_in}
use Rattle.variants.proofs.Makings.{variant-passes}
use Rattle.clocks.proofs.Accepted.{Accepted, accepts}

-- what 01's last section and 02's request 05 ask of a handed-in record
pub record InRange (c : Chip) : Type 0 where
  pub clocks : clocks_no c.core.clocks.master c.core.clocks.rate ≡ 0
  pub internal : c.core.clocks.internal ≡ c.core.clocks.master / 8
  pub cycles : c.core.clocks.cycles ≡ 4 * c.core.clocks.master / c.core.clocks.rate
  pub accumulator : c.core.accumulator < c.core.clocks.rate
  pub variant : c.core.variant ≤ 2
  pub voice : VoiceInRange c.core.voice
  pub selected : c.core.selected ≤ 15
  pub queue : QueueInRange c.queue

-- the lengths of a record's arrays, which its type settles
pub record Laid (c : Chip) : Type 0 where
  pub registers : length c.core.voice.registers ≡ 14
  pub stamps : length c.queue.stamps ≡ 256
  pub numbers : length c.queue.registers ≡ 256
  pub values : length c.queue.values ≡ 256

pub passed : {c : Chip} → Laid c → chip_in c ≡ true → InRange c
unfolding chip_in core_in clocks_in variant_in
passed {c} l e =
    let k = c.core.clocks in
    let (core, p) = both-parts (core_in c.core) _ e in
    let (queue, _) = both-parts (queue_in c.queue) _ p in
    let (clocks, q) = both-parts (clocks_in k c.core.accumulator) _ core in
    let (variant, p') = both-parts (variant_in c.core.variant) _ q in
    let (voice, r) = both-parts (voice_in c.core.voice) _ p' in
    let (selected, _) = both-parts (leb c.core.selected 15) _ r in
    let (a, s) = both-parts (eqb (clocks_no k.master k.rate) 0) _ clocks in
    let (b, t) = both-parts (eqb k.internal (k.master / 8)) _ s in
    let (d, u) = both-parts (eqb k.cycles (4 * k.master / k.rate)) _ t in
    let (f, _) = both-parts (ltb c.core.accumulator k.rate) _ u in
    record {
      clocks = eqb-true _ _ a;
      internal = eqb-true _ _ b;
      cycles = eqb-true _ _ d;
      accumulator = ltb-true _ _ f;
      variant = leb-true _ _ variant;
      voice = voice-passed l.registers voice;
      selected = leb-true _ _ selected;
      queue = queue-passed c.queue l.stamps l.numbers l.values queue;
    }

pub passes : {c : Chip} → InRange c → chip_in c ≡ true
unfolding chip_in core_in clocks_in variant_in
passes {c} r =
    both_true
    (both_true
    (both_true (eq-eqb _ _ r.clocks)
    (both_true (eq-eqb _ _ r.internal) (both_true (eq-eqb _ _ r.cycles) (both_true (lt-ltb _ _ r.accumulator) refl))))
    (both_true (variant-passes r.variant) (both_true (voice-passes r.voice) (both_true (le-leb _ _ r.selected) refl))))
    (both_true (queue-passes c.queue r.queue) refl)

-- what a word asks
pub core-runs : {c : Chip} → InRange c → CoreInRange c.core
core-runs {c} r =
    let k : Accepted c.core.clocks.master c.core.clocks.rate = accepts _ _ r.clocks in
    record {
      run = record { under = r.accumulator; slow = rw r.internal k.slow; small = rw r.internal (omega (arith, k.small)) };
      cycles = rw r.cycles (cycles-lt _ _ k.small);
      voice = r.voice;
    }
  where
    cycles-lt : (master rate : ℕ) → master ≤ 1073741823 → 4 * master / rate < 4294967296
    cycles-lt master rate h = lt_of_le_of_lt (div-le_self (4 * master) rate) (omega arith)
