-- Every line of the table comes out by computing. Assumes nothing.
use mathlib.Core.Path.{refl}
use lib.Ieee.{mul, div, of_int}
use Rattle.text_fields.specs.Fields.{needless, digits, decimal_of, hex_value, all_hex, hex_byte}
use Rattle.text_lines.specs.Lines.{span, line_at, starts_with, value_at}
use Rattle.text_entries.specs.Entries.{line_entry_at}
use Rattle.dump_lines.specs.OneLine.{master_line, rate_line, words_line, frames_line, is_frame, frame_at}
use Rattle.dump_clocks.specs.Clocks.{clock_lines}
use Rattle.dump.specs.Checked.{frames_from, sized, checked, told}
use Rattle.envelope_shapes.specs.Shapes.{shape_entry, envelope_entry}
use Rattle.tone.specs.Tone.{tone_set, tone_step, tone_tick}
use Rattle.noise.specs.Noise.{register_step, output_by, noise_tick}
use Rattle.envelope.specs.Envelope.{next_position, envelope_tick, row_place, envelope_level}
use Rattle.generators.specs.Generators.{tick, edges_of, tone_at, put_tone, tones_set}
use Rattle.power_on.specs.Seed.{power_on_edges}
use Rattle.generators.specs.Reset.{generators_reset}
use Rattle.gates.specs.Gates.{gates_from, gate_of}
use Rattle.drums.specs.Drums.{drum_out}
use Rattle.channel.specs.Channel.{heard, sounded}
use Rattle.levels.specs.Levels.{fixed_level, envelope_used, level_used, gated_level, loudness_of}
use Rattle.three_channels.specs.Channels.{channel_at, put_channel, set_mute, set_drum}
use Rattle.mixer.specs.Mix.{mixed}
use Rattle.registers.specs.Registers.{pair_at, tone_period_set, noise_period_set, gates_set, envelope_period_set, shape_set, voice_set, masked, apply_register}
use Rattle.registers.specs.Writes.{applied_in_order, registers_from}
use Rattle.write_effects.specs.Effects.{changes_in, restarts_in}
use Rattle.all_registers.specs.Reset.{voice_reset}
use Rattle.queue.specs.Waiting.{writes_from, waiting, due, queue_in}
use Rattle.queue_flush.specs.Applied.{register_writes}
use Rattle.queue_drain.specs.Drain.{drain}
use Rattle.clocking_ticks.specs.Ticks.{ticking, ticked}
use Rattle.clocking_word.specs.Word.{drained, ran_of, mixed_of, word_of}
use Rattle.clocking_block.specs.Block.{after_words, applied_of, ticks_of, words_of}
use Rattle.clocks.specs.Clocks.{accept_clocks, clocks_no}
use Rattle.voice_range.specs.Range.{bytes_in, tone_in, all_or_none, noise_in, envelope_in, generators_in, gates_in, voice_in}
use Rattle.chip.specs.Range.{clocks_in, core_in, chip_in}
use Rattle.variants.specs.Variants.{variant_in}
use Rattle.calls_making.specs.Making.{made_of, fresh, with_clocks, reset_of, reset_call}
use Rattle.calls_registers.specs.Stored.{write_register, read_register}
use Rattle.calls_channels.specs.ChannelCalls.{set_channel_mute, set_drum_sample_override}
use Rattle.calls_words.specs.Blocks.{blocked, block_buffer, sampled}
use Rattle.block_limits.specs.Limits.{accept_block, block_number}
use Rattle.dump_writes.specs.Writes.{registers_written, frame_writes}
use Rattle.dump_frames.specs.Frame.{frame_chip}
use Rattle.dump_played.specs.Whole.{frame_place, chip_before, frame_words, words_in, printed}
use Rattle.text_put.specs.Text.{spelt}
use Rattle.dump_words.specs.Words.{lines_of}
use Rattle.output_lines.specs.Lines.{total_text}
use Rattle.laws_bench_rules.specs.Setups.{ticks, at44100, shape8, drum_alone, reset_after31}
use Rattle.laws_bench_rules.specs.Table.{Table}

pub table : Table
unfolding ticks at44100 shape8 drum_alone reset_after31 needless digits decimal_of hex_value all_hex hex_byte span line_at starts_with value_at line_entry_at master_line rate_line words_line frames_line is_frame frame_at clock_lines frames_from sized checked told shape_entry envelope_entry tone_set tone_step tone_tick register_step output_by noise_tick next_position envelope_tick row_place envelope_level tick edges_of tone_at put_tone tones_set power_on_edges generators_reset gates_from gate_of drum_out heard sounded fixed_level envelope_used level_used gated_level loudness_of channel_at put_channel set_mute set_drum mixed pair_at tone_period_set noise_period_set gates_set envelope_period_set shape_set voice_set masked apply_register registers_from changes_in restarts_in voice_reset writes_from waiting due applied_in_order register_writes drain queue_in ticking ticked drained ran_of mixed_of word_of after_words applied_of ticks_of words_of clocks_no accept_clocks clocks_in bytes_in tone_in all_or_none noise_in envelope_in generators_in gates_in voice_in variant_in core_in chip_in made_of fresh with_clocks reset_of reset_call write_register read_register set_channel_mute set_drum_sample_override block_number accept_block blocked block_buffer sampled registers_written frame_writes frame_chip frame_place chip_before frame_words words_in spelt lines_of total_text printed mul div of_int
table =
    record {
      seed = refl;
      edges = (refl, refl);
      noise = refl;
      ticks = refl;
      accumulator = refl;
      first_word = refl;
      dump = refl;
      ripped-dump = refl;
      rate-250000 = refl;
      rate-250001 = refl;
      master-1073741824 = refl;
      master-7 = refl;
      shape-8 = (refl, refl);
      position-63 = (refl, refl);
      position-0 = (refl, refl);
      drum-1 = (refl, refl);
      drum-8 = (refl, refl);
      r6 = refl;
      tick-60 = refl;
      tick-61 = refl;
    }
