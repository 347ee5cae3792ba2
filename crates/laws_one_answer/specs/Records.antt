-- Every call of `c_record`, `c_told`, `c_making`, `c_words`, `c_blocks` and `c_calls` is settled, a block's buffer too (`Settled`). Assumes nothing.
use Rattle.c_record.specs.contracts.ChipFromRecord.from as chip_of
use Rattle.c_record.specs.contracts.RecordFromChip.from as record_of
use Rattle.c_told.specs.contracts.tell
use Rattle.c_record.specs.contracts.DrumFromRecordDrum.from as drum_of
use Rattle.c_record.specs.contracts.RecordDrumFromDrum.from as record_drum
use Rattle.c_record.specs.contracts.ChannelFromRecordChannel.from as channel_of
use Rattle.c_record.specs.contracts.CoreFromRecordCore.from as core_of
use Rattle.c_record.specs.contracts.RecordCoreFromCore.from as record_core
use Rattle.c_record.specs.contracts.RecordChannelFromChannel.from as record_channel
use Rattle.c_making.specs.contracts.new
use Rattle.c_making.specs.contracts.with_clocks
use Rattle.c_making.specs.contracts.with_variant
use Rattle.c_calls.specs.contracts.reset
use Rattle.c_words.specs.contracts.compute_next_sample
use Rattle.c_blocks.specs.contracts.block
use Rattle.laws_one_answer.specs.Settled.{Settles}

pub record Held : Type 2 where
  pub chip_of : Settles chip_of.ended (λ M 𝓤. chip_of.clauses)
  pub record_of : Settles record_of.ended (λ M 𝓤. record_of.clauses)
  pub tell : Settles tell.ended (λ M 𝓤. tell.clauses)
  pub drum_of : Settles drum_of.ended (λ M 𝓤. drum_of.clauses)
  pub record_drum : Settles record_drum.ended (λ M 𝓤. record_drum.clauses)
  pub channel_of : Settles channel_of.ended (λ M 𝓤. channel_of.clauses)
  pub core_of : Settles core_of.ended (λ M 𝓤. core_of.clauses)
  pub record_core : Settles record_core.ended (λ M 𝓤. record_core.clauses)
  pub record_channel : Settles record_channel.ended (λ M 𝓤. record_channel.clauses)
  pub new : Settles new.ended (λ M 𝓤. new.clauses)
  pub with_clocks : Settles with_clocks.ended (λ M 𝓤. with_clocks.clauses)
  pub with_variant : Settles with_variant.ended (λ M 𝓤. with_variant.clauses)
  pub reset : Settles reset.ended (λ M 𝓤. reset.clauses)
  pub compute_next_sample : Settles compute_next_sample.ended (λ M 𝓤. compute_next_sample.clauses)
  pub block : Settles block.ended (λ M 𝓤. block.clauses)
