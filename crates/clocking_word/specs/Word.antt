-- One word. 01, "One tick, one word". Assumes nothing.
use Rattle.std.specs.Prelude.{Bool, List, [], ◌∷◌, ℕ, ◌+◌}
use Rattle.generators.specs.declared.Generators.{Generators}
use Rattle.tone.specs.Tone.{is_halved}
use Rattle.envelope.specs.Envelope.{envelope_level}
use Rattle.three_channels.specs.declared.Channels.{Channels}
use Rattle.mixer.specs.declared.Mixed.{Mixed}
use Rattle.mixer.specs.Mix.{mixed}
use Rattle.registers.specs.declared.Voice.{Voice}
use Rattle.registers.specs.Registers.{byte_at, with_generators}
use Rattle.queue.specs.declared.Queue.{Queue}
use Rattle.queue.specs.declared.Write.{Write}
use Rattle.queue.specs.Waiting.{due, waiting}
use Rattle.queue_drain.specs.Drain.{AfterDrain, drain}
use Rattle.chip.specs.declared.Core.{Core}
use Rattle.clocking_ticks.specs.declared.Ran.{Ran}
use Rattle.clocking_word.specs.declared.Worded.{Worded}
use Rattle.chip_parts.specs.Parts.{after_ticks}
use Rattle.clocking_ticks.specs.Ticks.{ticked}

-- A word: its end is start plus (4 × master / rate, rounded down), and that end is the next word's start.
abbrev pub end_of : Core → ℕ
end_of c = c.start + c.clocks.cycles

-- the writes that a word applies
abbrev pub applied_by : Core → Queue → List Write
applied_by c q = due (end_of c) (waiting q)

-- Waiting writes are applied from the front while their stamp is at most that end; the first later one stops it.
unfoldable pub drained : Core → Queue → AfterDrain
drained c q = drain (end_of c) c.voice q

-- Then ticks run.
unfoldable pub ran_of : Core → Voice → Ran
ran_of c v = ticked v.gates c.clocks.rate c.clocks.internal v.generators c.accumulator

-- R8 to R10, and the channels that are halved
abbrev pub volumes : Voice → List ℕ
volumes v = byte_at 8 v ∷ byte_at 9 v ∷ byte_at 10 v ∷ []

abbrev pub halves : Generators → List Bool
halves g = is_halved g.a ∷ is_halved g.b ∷ is_halved g.c ∷ []

-- The level is looked up once, from the gate of all ticks; the word is the sum of three channel outputs.
unfoldable pub mixed_of : ℕ → Channels → Voice → ℕ → Mixed
mixed_of variant channels v gate =
    let g = v.generators in
    mixed variant channels (volumes v) (halves g) (envelope_level g.envelope) gate

-- What a word leaves, its value and its ticks.
pub record Word : Type 0 where
  pub core : Core
  pub queue : Queue
  pub word : ℕ
  pub ticks : ℕ

abbrev pub after_word : Core → Voice → ℕ → Channels → Core
after_word c v accumulator channels = after_ticks v accumulator channels (end_of c) c

abbrev pub word_from : Core → AfterDrain → Word
word_from c d =
    let r = ran_of c d.voice in
    let v = with_generators r.generators d.voice in
    let m = mixed_of c.variant c.channels v r.gate in
    record { core = after_word c v r.accumulator m.channels; queue = d.queue; word = m.word; ticks = r.ticks }

unfoldable pub word_of : Core → Queue → Word
word_of c q = word_from c (drained c q)

-- where the row of the envelope's shape begins
abbrev pub offset_in : Core → ℕ
offset_in c = c.voice.generators.envelope.offset

-- the same where the ring is lent: its place and count come back
abbrev pub small_of : Word → Worded
small_of w = record { core = w.core; head = w.queue.head; count = w.queue.count; word = w.word; ticks = w.ticks }
