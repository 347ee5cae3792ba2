-- Every row of the table comes out by computing. Assumes nothing.
use mathlib.Core.Path.{refl}
use lib.Ieee.{mul, div, of_int}
use Rattle.envelope_shapes.specs.Shapes.{shape_entry, envelope_entry}
use Rattle.tone.specs.Tone.{tone_set, tone_step, tone_tick}
use Rattle.noise.specs.Noise.{register_step, output_by, noise_tick}
use Rattle.envelope.specs.Envelope.{next_position, envelope_tick, row_place, envelope_level}
use Rattle.generators.specs.Generators.{tick, edges_of, tone_at, put_tone, tones_set}
use Rattle.power_on.specs.Seed.{power_on_edges}
use Rattle.generators.specs.Reset.{generators_reset}
use Rattle.gates.specs.Gates.{gates_from, gate_of}
use Rattle.channel.specs.Channel.{heard, sounded}
use Rattle.levels.specs.Levels.{fixed_level, envelope_used, level_used, gated_level, loudness_of}
use Rattle.mixer.specs.Mix.{mixed}
use Rattle.registers.specs.Registers.{pair_at, tone_period_set, noise_period_set, gates_set, envelope_period_set, shape_set, voice_set, masked, apply_register}
use Rattle.registers.specs.Writes.{applied_in_order, registers_from}
use Rattle.all_registers.specs.Reset.{voice_reset}
use Rattle.queue.specs.Waiting.{writes_from, waiting, due, queue_in}
use Rattle.queue_flush.specs.Applied.{register_writes}
use Rattle.queue_drain.specs.Drain.{drain}
use Rattle.clocking_ticks.specs.Ticks.{ticking, ticked}
use Rattle.clocking_word.specs.Word.{drained, ran_of, mixed_of, word_of}
use Rattle.clocking_block.specs.Block.{after_words, ticks_of, words_of}
use Rattle.clocks.specs.Clocks.{accept_clocks, clocks_no}
use Rattle.voice_range.specs.Range.{bytes_in, tone_in, all_or_none, noise_in, envelope_in, generators_in, gates_in, voice_in}
use Rattle.chip.specs.Range.{clocks_in, core_in, chip_in}
use Rattle.calls_making.specs.Making.{made_of, fresh, with_variant, reset_of, reset_call}
use Rattle.variants.specs.Variants.{accept_making, variant_in, making_no}
use Rattle.calls_registers.specs.Stored.{load_registers, read_register}
use Rattle.calls_words.specs.Blocks.{blocked, block_buffer, sampled}
use Rattle.block_limits.specs.Limits.{accept_block, block_number}
use Rattle.laws_variants.specs.Table.{of_variant, loaded_with, Table}

pub table : Table
unfolding of_variant loaded_with shape_entry envelope_entry tone_set tone_step tone_tick register_step output_by noise_tick next_position envelope_tick row_place envelope_level tick edges_of tone_at put_tone tones_set power_on_edges generators_reset gates_from gate_of heard sounded fixed_level envelope_used level_used gated_level loudness_of mixed pair_at tone_period_set noise_period_set gates_set envelope_period_set shape_set voice_set masked apply_register registers_from voice_reset writes_from waiting due applied_in_order register_writes drain queue_in ticking ticked drained ran_of mixed_of word_of after_words ticks_of words_of clocks_no accept_clocks clocks_in bytes_in tone_in all_or_none noise_in envelope_in generators_in gates_in voice_in variant_in core_in chip_in made_of fresh making_no accept_making with_variant reset_of reset_call load_registers read_register block_number accept_block blocked block_buffer sampled mul div of_int
table =
    record {
      dump = refl;
      highest = refl;
      steps = refl;
      first_word = refl;
      read_back = refl;
      amplitude = refl;
      output = refl;
      cleared-amplitude = refl;
      variant-3 = refl;
      variant-255 = refl;
      no-1 = refl;
      no-2 = refl;
      no-3 = refl;
      refused = refl;
      reset = refl;
    }
