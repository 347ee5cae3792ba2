-- The calls inside the layers are settled (`Settled`). Assumes nothing.
use Rattle.tables.specs.contracts.register_mask
use Rattle.tables.specs.contracts.gate_mask
use Rattle.envelope_shapes.specs.contracts.shape_offset
use Rattle.envelope_shapes.specs.contracts.envelope_entry
use Rattle.envelope_wave.specs.contracts.wave_of
use Rattle.envelope_wave.specs.contracts.wave_after
use Rattle.envelope_wave.specs.contracts.Wave.entry as wave_entry
use Rattle.tables.specs.contracts.level_table
use Rattle.tables.specs.contracts.level
use Rattle.tone.specs.contracts.Tone.set_period as tone_set_period
use Rattle.tone.specs.contracts.Tone.is_half_amplitude as tone_is_half_amplitude
use Rattle.tone.specs.contracts.Tone.apply_pending_reset as tone_apply_pending_reset
use Rattle.tone.specs.contracts.Tone.tick as tone_tick
use Rattle.tone.specs.contracts.tone_step
use Rattle.tone.specs.contracts.Tone.reset as tone_reset
use Rattle.noise.specs.contracts.Noise.set_period as noise_set_period
use Rattle.noise.specs.contracts.Noise.tick as noise_tick
use Rattle.noise.specs.contracts.Noise.reset as noise_reset
use Rattle.noise.specs.contracts.at_least_one
use Rattle.noise.specs.contracts.noise_step
use Rattle.noise.specs.contracts.noise_output
use Rattle.envelope.specs.contracts.Envelope.set_period as envelope_set_period
use Rattle.envelope.specs.contracts.Envelope.set_shape as envelope_set_shape
use Rattle.envelope.specs.contracts.Envelope.trigger as envelope_trigger
use Rattle.envelope.specs.contracts.Envelope.tick as envelope_tick
use Rattle.envelope.specs.contracts.Envelope.level as envelope_level
use Rattle.envelope.specs.contracts.Envelope.level_in as envelope_level_in
use Rattle.envelope.specs.contracts.Envelope.reset as envelope_reset
use Rattle.envelope.specs.contracts.next_position
use Rattle.generators.specs.contracts.Generators.new as generators_new
use Rattle.generators.specs.contracts.Generators.reset as generators_reset
use Rattle.generators.specs.contracts.Generators.set_tone_period as generators_set_tone_period
use Rattle.generators.specs.contracts.Generators.apply_pending_resets as generators_apply_pending_resets
use Rattle.generators.specs.contracts.Generators.tick as generators_tick
use Rattle.generators.specs.contracts.Generators.edges as generators_edges
use Rattle.power_on.specs.contracts.power_on_edges
use Rattle.power_on.specs.contracts.random_seed
use Rattle.clocking_generators.specs.contracts.Turning.of as turning_of
use Rattle.clocking_generators.specs.contracts.Turning.tick as turning_tick
use Rattle.clocking_generators.specs.contracts.Turning.generators as turning_generators
use Rattle.gates.specs.contracts.Gates.from_register as gates_from_register
use Rattle.gates.specs.contracts.Gates.gate as gates_gate
use Rattle.levels.specs.contracts.level_used
use Rattle.levels.specs.contracts.fixed_level
use Rattle.levels.specs.contracts.envelope_used
use Rattle.level_scale.specs.contracts.scale_of
use Rattle.level_scale.specs.contracts.Scale.sources as scale_sources
use Rattle.level_scale.specs.contracts.Scale.used as scale_used
use Rattle.level_scale.specs.contracts.picked
use Rattle.drums.specs.contracts.drum_out
use Rattle.levels.specs.contracts.loudness
use Rattle.levels.specs.contracts.gated_level
use Rattle.channel.specs.contracts.Channel.new as channel_new
use Rattle.channel.specs.contracts.Channel.with_mute as channel_with_mute
use Rattle.channel.specs.contracts.Channel.with_drum as channel_with_drum
use Rattle.channel.specs.contracts.Channel.reset as channel_reset
use Rattle.channel.specs.contracts.Channel.sound as channel_sound
use Rattle.channel.specs.contracts.Channel.compute_output as channel_compute_output
use Rattle.three_channels.specs.contracts.Channels.new as channels_new
use Rattle.three_channels.specs.contracts.Channels.reset as channels_reset
use Rattle.three_channels.specs.contracts.Channels.set_mute as channels_set_mute
use Rattle.three_channels.specs.contracts.Channels.is_muted as channels_is_muted
use Rattle.three_channels.specs.contracts.Channels.set_drum_override as channels_set_drum_override
use Rattle.mixer.specs.contracts.mix as channels_mix
use Rattle.mixer.specs.contracts.kept as channels_kept
use Rattle.all_registers.specs.contracts.new as voice_new
use Rattle.all_registers.specs.contracts.reset as voice_reset
use Rattle.registers.specs.contracts.Voice.apply_register as voice_apply_register
use Rattle.registers.specs.contracts.joined
use Rattle.registers.specs.contracts.masked_byte
use Rattle.stored_bytes.specs.contracts.mark
use Rattle.stored_bytes.specs.contracts.put
use Rattle.settling.specs.contracts.settings_of
use Rattle.settling.specs.contracts.settled
use Rattle.settling.specs.contracts.settled_one
use Rattle.settling.specs.contracts.with_settings
use Rattle.all_registers.specs.contracts.load_registers as voice_load_registers
use Rattle.queue.specs.contracts.Queue.new as queue_new
use Rattle.queue.specs.contracts.Queue.in_range as queue_in_range
use Rattle.queue.specs.contracts.Queue.push as queue_push
use Rattle.queue_flush.specs.contracts.flush as queue_flush
use Rattle.write_effects.specs.contracts.effect_of
use Rattle.write_effects.specs.contracts.differences
use Rattle.write_effects.specs.contracts.counted
use Rattle.queue_effects.specs.contracts.effects
use Rattle.queue_drain.specs.contracts.drain
use Rattle.queue_drain.specs.contracts.drain_one
use Rattle.clocking_ticks.specs.contracts.run_ticks
use Rattle.word_sum.specs.contracts.word as sum_word
use Rattle.word_sum.specs.contracts.part as sum_part
use Rattle.clocking_word.specs.contracts.word
use Rattle.clocking_word.specs.contracts.kept_of_word
use Rattle.clocking_word.specs.contracts.volumes_of
use Rattle.clocking_word.specs.contracts.halves_of
use Rattle.clocking_run.specs.contracts.run_words
use Rattle.clocking_block.specs.contracts.render
use Rattle.refusals.specs.contracts.Refusal.number as refusal_number
use Rattle.refusals.specs.contracts.answer_no
use Rattle.clocks.specs.contracts.accept_clocks
use Rattle.clocks.specs.contracts.accept_master
use Rattle.clocks.specs.contracts.accept_rate
use Rattle.chip.specs.contracts.clocks_of
use Rattle.voice_range.specs.contracts.voice_in
use Rattle.variants.specs.contracts.variant_in
use Rattle.variants.specs.contracts.accept_making
use Rattle.chip.specs.contracts.in_range
use Rattle.answers.specs.contracts.accepted
use Rattle.answers.specs.contracts.refused
use Rattle.chip_parts.specs.contracts.at_start
use Rattle.chip_parts.specs.contracts.with_voice
use Rattle.chip_parts.specs.contracts.with_channels
use Rattle.block_limits.specs.contracts.accept_block
use Rattle.calls_words.specs.contracts.refused as block_refused
use Rattle.laws_one_answer.specs.Settled.{Settles}

pub record Parts : Type 2 where
  pub register_mask : Settles register_mask.ended (λ M 𝓤. register_mask.clauses)
  pub gate_mask : Settles gate_mask.ended (λ M 𝓤. gate_mask.clauses)
  pub shape_offset : Settles shape_offset.ended (λ M 𝓤. shape_offset.clauses)
  pub envelope_entry : Settles envelope_entry.ended (λ M 𝓤. envelope_entry.clauses)
  pub wave_of : Settles wave_of.ended (λ M 𝓤. wave_of.clauses)
  pub wave_after : Settles wave_after.ended (λ M 𝓤. wave_after.clauses)
  pub wave_entry : Settles wave_entry.ended (λ M 𝓤. wave_entry.clauses)
  pub level_table : Settles level_table.ended (λ M 𝓤. level_table.clauses)
  pub level : Settles level.ended (λ M 𝓤. level.clauses)
  pub tone_set_period : Settles tone_set_period.ended (λ M 𝓤. tone_set_period.clauses)
  pub tone_is_half_amplitude : Settles tone_is_half_amplitude.ended (λ M 𝓤. tone_is_half_amplitude.clauses)
  pub tone_apply_pending_reset : Settles tone_apply_pending_reset.ended (λ M 𝓤. tone_apply_pending_reset.clauses)
  pub tone_tick : Settles tone_tick.ended (λ M 𝓤. tone_tick.clauses)
  pub tone_step : Settles tone_step.ended (λ M 𝓤. tone_step.clauses)
  pub tone_reset : Settles tone_reset.ended (λ M 𝓤. tone_reset.clauses)
  pub noise_set_period : Settles noise_set_period.ended (λ M 𝓤. noise_set_period.clauses)
  pub noise_tick : Settles noise_tick.ended (λ M 𝓤. noise_tick.clauses)
  pub noise_reset : Settles noise_reset.ended (λ M 𝓤. noise_reset.clauses)
  pub at_least_one : Settles at_least_one.ended (λ M 𝓤. at_least_one.clauses)
  pub noise_step : Settles noise_step.ended (λ M 𝓤. noise_step.clauses)
  pub noise_output : Settles noise_output.ended (λ M 𝓤. noise_output.clauses)
  pub envelope_set_period : Settles envelope_set_period.ended (λ M 𝓤. envelope_set_period.clauses)
  pub envelope_set_shape : Settles envelope_set_shape.ended (λ M 𝓤. envelope_set_shape.clauses)
  pub envelope_trigger : Settles envelope_trigger.ended (λ M 𝓤. envelope_trigger.clauses)
  pub envelope_tick : Settles envelope_tick.ended (λ M 𝓤. envelope_tick.clauses)
  pub envelope_level : Settles envelope_level.ended (λ M 𝓤. envelope_level.clauses)
  pub envelope_level_in : Settles envelope_level_in.ended (λ M 𝓤. envelope_level_in.clauses)
  pub envelope_reset : Settles envelope_reset.ended (λ M 𝓤. envelope_reset.clauses)
  pub next_position : Settles next_position.ended (λ M 𝓤. next_position.clauses)
  pub generators_new : Settles generators_new.ended (λ M 𝓤. generators_new.clauses)
  pub generators_reset : Settles generators_reset.ended (λ M 𝓤. generators_reset.clauses)
  pub generators_set_tone_period : Settles generators_set_tone_period.ended (λ M 𝓤. generators_set_tone_period.clauses)
  pub generators_apply_pending_resets : Settles generators_apply_pending_resets.ended (λ M 𝓤. generators_apply_pending_resets.clauses)
  pub generators_tick : Settles generators_tick.ended (λ M 𝓤. generators_tick.clauses)
  pub generators_edges : Settles generators_edges.ended (λ M 𝓤. generators_edges.clauses)
  pub power_on_edges : Settles power_on_edges.ended (λ M 𝓤. power_on_edges.clauses)
  pub random_seed : Settles random_seed.ended (λ M 𝓤. random_seed.clauses)
  pub turning_of : Settles turning_of.ended (λ M 𝓤. turning_of.clauses)
  pub turning_tick : Settles turning_tick.ended (λ M 𝓤. turning_tick.clauses)
  pub turning_generators : Settles turning_generators.ended (λ M 𝓤. turning_generators.clauses)
  pub gates_from_register : Settles gates_from_register.ended (λ M 𝓤. gates_from_register.clauses)
  pub gates_gate : Settles gates_gate.ended (λ M 𝓤. gates_gate.clauses)
  pub level_used : Settles level_used.ended (λ M 𝓤. level_used.clauses)
  pub fixed_level : Settles fixed_level.ended (λ M 𝓤. fixed_level.clauses)
  pub envelope_used : Settles envelope_used.ended (λ M 𝓤. envelope_used.clauses)
  pub scale_of : Settles scale_of.ended (λ M 𝓤. scale_of.clauses)
  pub scale_sources : Settles scale_sources.ended (λ M 𝓤. scale_sources.clauses)
  pub scale_used : Settles scale_used.ended (λ M 𝓤. scale_used.clauses)
  pub picked : Settles picked.ended (λ M 𝓤. picked.clauses)
  pub drum_out : Settles drum_out.ended (λ M 𝓤. drum_out.clauses)
  pub loudness : Settles loudness.ended (λ M 𝓤. loudness.clauses)
  pub gated_level : Settles gated_level.ended (λ M 𝓤. gated_level.clauses)
  pub channel_new : Settles channel_new.ended (λ M 𝓤. channel_new.clauses)
  pub channel_with_mute : Settles channel_with_mute.ended (λ M 𝓤. channel_with_mute.clauses)
  pub channel_with_drum : Settles channel_with_drum.ended (λ M 𝓤. channel_with_drum.clauses)
  pub channel_reset : Settles channel_reset.ended (λ M 𝓤. channel_reset.clauses)
  pub channel_sound : Settles channel_sound.ended (λ M 𝓤. channel_sound.clauses)
  pub channel_compute_output : Settles channel_compute_output.ended (λ M 𝓤. channel_compute_output.clauses)
  pub channels_new : Settles channels_new.ended (λ M 𝓤. channels_new.clauses)
  pub channels_reset : Settles channels_reset.ended (λ M 𝓤. channels_reset.clauses)
  pub channels_set_mute : Settles channels_set_mute.ended (λ M 𝓤. channels_set_mute.clauses)
  pub channels_is_muted : Settles channels_is_muted.ended (λ M 𝓤. channels_is_muted.clauses)
  pub channels_set_drum_override : Settles channels_set_drum_override.ended (λ M 𝓤. channels_set_drum_override.clauses)
  pub channels_mix : Settles channels_mix.ended (λ M 𝓤. channels_mix.clauses)
  pub channels_kept : Settles channels_kept.ended (λ M 𝓤. channels_kept.clauses)
  pub voice_new : Settles voice_new.ended (λ M 𝓤. voice_new.clauses)
  pub voice_reset : Settles voice_reset.ended (λ M 𝓤. voice_reset.clauses)
  pub voice_apply_register : Settles voice_apply_register.ended (λ M 𝓤. voice_apply_register.clauses)
  pub joined : Settles joined.ended (λ M 𝓤. joined.clauses)
  pub masked_byte : Settles masked_byte.ended (λ M 𝓤. masked_byte.clauses)
  pub mark : Settles mark.ended (λ M 𝓤. mark.clauses)
  pub put : Settles put.ended (λ M 𝓤. put.clauses)
  pub settings_of : Settles settings_of.ended (λ M 𝓤. settings_of.clauses)
  pub settled : Settles settled.ended (λ M 𝓤. settled.clauses)
  pub settled_one : Settles settled_one.ended (λ M 𝓤. settled_one.clauses)
  pub with_settings : Settles with_settings.ended (λ M 𝓤. with_settings.clauses)
  pub voice_load_registers : Settles voice_load_registers.ended (λ M 𝓤. voice_load_registers.clauses)
  pub queue_new : Settles queue_new.ended (λ M 𝓤. queue_new.clauses)
  pub queue_in_range : Settles queue_in_range.ended (λ M 𝓤. queue_in_range.clauses)
  pub queue_push : Settles queue_push.ended (λ M 𝓤. queue_push.clauses)
  pub queue_flush : Settles queue_flush.ended (λ M 𝓤. queue_flush.clauses)
  pub effect_of : Settles effect_of.ended (λ M 𝓤. effect_of.clauses)
  pub differences : Settles differences.ended (λ M 𝓤. differences.clauses)
  pub counted : Settles counted.ended (λ M 𝓤. counted.clauses)
  pub effects : Settles effects.ended (λ M 𝓤. effects.clauses)
  pub drain : Settles drain.ended (λ M 𝓤. drain.clauses)
  pub drain_one : Settles drain_one.ended (λ M 𝓤. drain_one.clauses)
  pub run_ticks : Settles run_ticks.ended (λ M 𝓤. run_ticks.clauses)
  pub word : Settles word.ended (λ M 𝓤. word.clauses)
  pub sum_word : Settles sum_word.ended (λ M 𝓤. sum_word.clauses)
  pub sum_part : Settles sum_part.ended (λ M 𝓤. sum_part.clauses)
  pub kept_of_word : Settles kept_of_word.ended (λ M 𝓤. kept_of_word.clauses)
  pub volumes_of : Settles volumes_of.ended (λ M 𝓤. volumes_of.clauses)
  pub halves_of : Settles halves_of.ended (λ M 𝓤. halves_of.clauses)
  pub run_words : Settles run_words.ended (λ M 𝓤. run_words.clauses)
  pub render : Settles render.ended (λ M 𝓤. render.clauses)
  pub refusal_number : Settles refusal_number.ended (λ M 𝓤. refusal_number.clauses)
  pub answer_no : Settles answer_no.ended (λ M 𝓤. answer_no.clauses)
  pub accept_clocks : Settles accept_clocks.ended (λ M 𝓤. accept_clocks.clauses)
  pub accept_master : Settles accept_master.ended (λ M 𝓤. accept_master.clauses)
  pub accept_rate : Settles accept_rate.ended (λ M 𝓤. accept_rate.clauses)
  pub clocks_of : Settles clocks_of.ended (λ M 𝓤. clocks_of.clauses)
  pub voice_in : Settles voice_in.ended (λ M 𝓤. voice_in.clauses)
  pub variant_in : Settles variant_in.ended (λ M 𝓤. variant_in.clauses)
  pub accept_making : Settles accept_making.ended (λ M 𝓤. accept_making.clauses)
  pub in_range : Settles in_range.ended (λ M 𝓤. in_range.clauses)
  pub accepted : Settles accepted.ended (λ M 𝓤. accepted.clauses)
  pub refused : Settles refused.ended (λ M 𝓤. refused.clauses)
  pub at_start : Settles at_start.ended (λ M 𝓤. at_start.clauses)
  pub with_voice : Settles with_voice.ended (λ M 𝓤. with_voice.clauses)
  pub with_channels : Settles with_channels.ended (λ M 𝓤. with_channels.clauses)
  pub accept_block : Settles accept_block.ended (λ M 𝓤. accept_block.clauses)
  pub block_refused : Settles block_refused.ended (λ M 𝓤. block_refused.clauses)
