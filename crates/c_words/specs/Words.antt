-- One word and a block on a host's record. 01, "One tick, one word". Assumes nothing.
use Rattle.std.specs.Prelude.{ℕ, cond, eqb}
use Rattle.refusals.specs.Numbers.{accepted}
use Rattle.channel.specs.declared.Channel.{Channel}
use Rattle.three_channels.specs.declared.Channels.{Channels}
use Rattle.c_record.specs.declared.Record.{Record}
use Rattle.c_record.specs.declared.RecordChannel.{RecordChannel}
use Rattle.c_record.specs.Record.{channel_of, chip_of, record_channel}
use Rattle.c_told.specs.Told.{ToldBlock, ToldSample, told_block, told_sample}
use Rattle.steps_words.specs.declared.WordStep.{WordStep}
use Rattle.c_words.specs.declared.RecordWord.{RecordWord}
use Rattle.calls_words.specs.Blocks.{blocked, sampled}

-- the next word of the chip that the record holds, and a block of n
abbrev pub next_word : Record → ToldSample
next_word x = told_sample x (sampled (chip_of x))

abbrev pub next_block : ℕ → Record → ToldBlock
next_block n x = told_block x (blocked n (chip_of x))

-- the channels that a host's three hold
abbrev pub channels_of : RecordChannel → RecordChannel → RecordChannel → Channels
channels_of a b c = record { a = channel_of a; b = channel_of b; c = channel_of c }

-- A refused call changes nothing; an accepted one leaves the channel that the word left.
unfoldable pub left_of : ℕ → RecordChannel → Channel → RecordChannel
left_of number before after = cond (eqb number accepted) (record_channel after) before

-- what a word leaves of a host's record, and its answer
abbrev pub record_word : RecordChannel → RecordChannel → RecordChannel → WordStep → RecordWord
record_word a b c w =
    record {
      voice = w.voice;
      a = left_of w.answer.no a w.channels.a;
      b = left_of w.answer.no b w.channels.b;
      c = left_of w.answer.no c w.channels.c;
      accumulator = w.accumulator;
      start = w.start;
      head = w.head;
      count = w.count;
      answer = w.answer;
    }
