-- A word from what its calls give: the drain, the ticks, the mix. Assumes nothing.
use mathlib.Core.Path.{◌≡◌}
use Rattle.envelope.specs.Range.{EnvelopeInRange}
use Rattle.mixer.specs.declared.Mixed.{Mixed}
use Rattle.registers.specs.Registers.{with_generators}
use Rattle.registers.specs.Range.{VoiceInRange}
use Rattle.queue.specs.declared.Queue.{Queue}
use Rattle.queue_drain.specs.declared.Drained.{Drained}
use Rattle.queue_drain.specs.Drain.{drain}
use Rattle.queue_drain.proofs.Ruled.{drained-in}
use Rattle.chip.specs.declared.Core.{Core}
use Rattle.clocking_ticks.specs.declared.Ran.{Ran}
use Rattle.clocking_ticks.specs.Ticks.{ticked}
use Rattle.clocking_word.specs.Word.{end_of, drained, ran_of, mixed_of, after_word, word_of, small_of}
use Rattle.chip.specs.Range.{CoreInRange}
use Rattle.clocking_ticks.proofs.Ranging.{ticked-in}

-- what a drain leaves of the small state
abbrev pub left : Core → Queue → Drained
left c q =
    let d = drain (end_of c) c.voice q in
    record { voice = d.voice; head = d.queue.head; count = d.queue.count }

-- a drain leaves the voice in range
pub drained-voice : (c : Core) (q : Queue) {d : Drained} → d ≡ left c q → CoreInRange c → VoiceInRange d.voice
drained-voice c q e h = rw e (drained-in (end_of c) q h.voice)

module _ (c : Core) (q : Queue) {d : Drained} {r : Ran} (e : d ≡ left c q)
    (f : r ≡ ticked d.voice.gates c.clocks.rate c.clocks.internal d.voice.generators c.accumulator) where
  pub run_in : CoreInRange c → EnvelopeInRange r.generators.envelope
  run_in h =
      let v : VoiceInRange d.voice = drained-voice c q e h in
      rw f (ticked-in d.voice.gates c.clocks.rate c.clocks.internal c.accumulator v.generators).envelope

  pub word-is : {m : Mixed} → m ≡ mixed_of c.variant c.channels (with_generators r.generators d.voice) r.gate
      → record {
        core = after_word c (with_generators r.generators d.voice) r.accumulator m.channels;
        head = d.head;
        count = d.count;
        word = m.word;
        ticks = r.ticks;
      }
      ≡ small_of (word_of c q)
  unfolding word_of drained ran_of
  word-is m = rw (m, f, e)
