-- One word by itself, of the parts of a record that it reads and changes. 01, "One tick, one word"; 02, request 03. Assumes nothing.
use Rattle.std.specs.Prelude.{ℕ, Bool, cond, List, eqb}
use Rattle.refusals.specs.Numbers.{accepted, out_of_range}
use Rattle.registers.specs.declared.Voice.{Voice}
use Rattle.registers.specs.Writes.{RegisterWrite}
use Rattle.write_effects.specs.Effects.{changes_in, restarts_in}
use Rattle.queue_flush.specs.Applied.{register_writes}
use Rattle.three_channels.specs.declared.Channels.{Channels}
use Rattle.queue.specs.declared.Queue.{Queue}
use Rattle.chip.specs.declared.Chip.{Chip}
use Rattle.chip.specs.declared.Clocks.{Clocks}
use Rattle.chip.specs.Range.{CoreInRange}
use Rattle.queue.specs.Waiting.{QueueInRange}
use Rattle.block_limits.specs.Limits.{block_number}
use Rattle.clocking_word.specs.Word.{Word, applied_by, word_of}
use Rattle.steps_words.specs.declared.WordStep.{WordStep}

-- A chip of these parts. To a word its selection and its stamp say nothing.
abbrev pub chip_at : Clocks → ℕ → Voice → Channels → ℕ → ℕ → Queue → Chip
chip_at clocks variant voice channels accumulator start queue =
    record {
      core = record {
        clocks = clocks;
        voice = voice;
        channels = channels;
        selected = 0;
        variant = variant;
        accumulator = accumulator;
        stamp = 0;
        start = start;
      };
      queue = queue;
    }

-- What a record that passed the test has for a word.
abbrev pub Playable : Chip → Type 0
Playable c = CoreInRange c.core × QueueInRange c.queue

-- nothing changes: word 0, 0 ticks, 0 and 0
abbrev pub unplayed : Voice → Channels → ℕ → ℕ → ℕ → ℕ → ℕ → WordStep
unplayed voice channels accumulator start head count number =
    record {
      voice = voice;
      channels = channels;
      accumulator = accumulator;
      start = start;
      head = head;
      count = count;
      answer = record { no = number; word = 0; ticks = 0; changed = 0; restarted = 0 };
    }

abbrev pub refused_word : ℕ → Chip → WordStep
refused_word number c = unplayed c.core.voice c.core.channels c.core.accumulator c.core.start c.queue.head c.queue.count number

-- the register writes that the word applies
abbrev pub writes_of : Chip → List RegisterWrite
writes_of c = register_writes (applied_by c.core c.queue)

-- what the word leaves of these parts, its value, its ticks, and the counts over the writes that it applied to the stored bytes
abbrev pub played_word : List RegisterWrite → List ℕ → Word → WordStep
played_word writes bytes w =
    record {
      voice = w.core.voice;
      channels = w.core.channels;
      accumulator = w.core.accumulator;
      start = w.core.start;
      head = w.queue.head;
      count = w.queue.count;
      answer = record {
        no = accepted;
        word = w.word;
        ticks = w.ticks;
        changed = changes_in writes bytes;
        restarted = restarts_in writes;
      };
    }

-- It is refused as a block of one is.
abbrev pub word_no : Chip → ℕ
word_no c = block_number 1 c.core.start c.core.clocks.cycles

unfoldable pub word_step : Bool → Chip → WordStep
word_step ok c =
    cond ok
    (cond (eqb (word_no c) accepted) (played_word (writes_of c) c.core.voice.registers (word_of c.core c.queue))
    (refused_word (word_no c) c))
    (refused_word out_of_range c)
