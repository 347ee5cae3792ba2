-- A word keeps the chip in range, and its ticks come to one internal clock. Assumes nothing.
use mathlib.Core.Path.{◌≡◌, refl}
use Prim.Native.Nat.{◌+◌, ◌*◌, ◌≤◌, ◌<◌}
use native.Mathlib.Nat.{le-mul_of_pos_right}
use native.Mathlib.Omega.{arith}
use Rattle.generators.specs.Range.{GeneratorsInRange}
use Rattle.envelope.proofs.Circling.{envelope-level-lt}
use Rattle.mixer.proofs.Laws.{mixed-le}
use Rattle.three_channels.specs.declared.Channels.{Channels}
use Rattle.registers.specs.declared.Voice.{Voice}
use Rattle.registers.specs.Registers.{with_generators}
use Rattle.registers.specs.Range.{VoiceInRange}
use Rattle.queue.specs.declared.Queue.{Queue}
use Rattle.queue.specs.Waiting.{QueueInRange}
use Rattle.queue_drain.proofs.Ruled.{drained-in, drain_kept}
use Rattle.chip.specs.declared.Core.{Core}
use Rattle.clocking_word.specs.Word.{end_of, drained, ran_of, mixed_of, after_word, Word, word_of}
use Rattle.chip.specs.Range.{CoreInRange}
use Rattle.clocking_ticks.proofs.Adding.{Adds, ticked-adds}
use Rattle.clocking_ticks.proofs.Ranging.{ticked-in}

-- what the ticks of a word keep and add, from a voice in range
pub record Ticked (c : Core) (v : Voice) (channels : Channels) : Type 0 where
  pub core : CoreInRange (after_word c (with_generators (ran_of c v).generators v) (ran_of c v).accumulator channels)
  pub sum : (ran_of c v).ticks * c.clocks.rate + c.accumulator ≡ c.clocks.internal + (ran_of c v).accumulator
  pub few : (ran_of c v).ticks < 268435456

pub ticks-kept : (c : Core) {v : Voice} (channels : Channels) → CoreInRange c → VoiceInRange v → Ticked c v channels
unfolding ran_of
ticks-kept c {v} channels h w =
    let r = ran_of c v in
    let g : GeneratorsInRange r.generators = ticked-in v.gates c.clocks.rate c.clocks.internal c.accumulator w.generators in
    let a : Adds c.clocks.rate c.clocks.internal c.accumulator 0 r = ticked-adds v.gates v.generators h.run in
    let many : r.ticks ≤ r.ticks * c.clocks.rate = le-mul_of_pos_right r.ticks (omega (arith, h.run.under)) in
    record {
      core = record {
        run = record { under = a.under; slow = h.run.slow; small = h.run.small };
        cycles = h.cycles;
        voice = record { bytes = w.bytes; generators = g; gates = w.gates };
      };
      sum = omega (arith, a.sum);
      few = omega (arith, a.sum, a.under, h.run.slow, h.run.small, h.run.under);
    }

-- what one word keeps and adds
pub record Stepped (c : Core) (w : Word) : Type 0 where
  pub core : CoreInRange w.core
  pub queue : QueueInRange w.queue
  pub clocks : w.core.clocks ≡ c.clocks
  pub variant : w.core.variant ≡ c.variant
  pub start : w.core.start ≡ end_of c
  pub sum : w.ticks * c.clocks.rate + c.accumulator ≡ c.clocks.internal + w.core.accumulator
  pub few : w.ticks < 268435456
  pub small : w.word ≤ 32766

pub stepped : (c : Core) (q : Queue) → CoreInRange c → QueueInRange q → Stepped c (word_of c q)
unfolding word_of drained mixed_of
stepped c q h k =
    let d = drained c q in
    let t : Ticked c d.voice (word_of c q).core.channels = ticks-kept c _ h (drained-in (end_of c) q h.voice) in
    record {
      core = t.core;
      queue = drain_kept (end_of c) c.voice q k;
      clocks = refl;
      variant = refl;
      start = refl;
      sum = t.sum;
      few = t.few;
      small = mixed-le _ _ _ _ _ _ (envelope-level-lt t.core.voice.generators.envelope);
    }
