-- Every call of `steps_*`, `c_steps`, `c_queue`, `queue_slot`, `lent_chip` and `lent_record` is settled, and the two tests by parts (`Settled`). Assumes nothing.
use denote.RattleType.{RattleType}
use Rattle.queue.specs.contracts.ring_in
use Rattle.chip.specs.contracts.parts_in
use Rattle.lent_chip.specs.contracts.in_range as chip_in_range
use Rattle.lent_record.specs.contracts.in_range as record_in_range
use Rattle.steps_cycles.specs.contracts.set_cpu_cycle
use Rattle.steps_cycles.specs.contracts.sync_sample_cycle
use Rattle.steps_cycles.specs.contracts.cpu_cycle
use Rattle.steps_cycles.specs.contracts.pending_write_count
use Rattle.steps_queue.specs.contracts.flush_pending_writes
use Rattle.queue_slot.specs.contracts.put
use Rattle.steps_ports.specs.contracts.write_port
use Rattle.steps_voice.specs.contracts.write_register
use Rattle.steps_voice.specs.contracts.load_registers
use Rattle.steps_voice.specs.contracts.write_port_immediate
use Rattle.steps_registers.specs.contracts.bit_1_clear
use Rattle.steps_registers.specs.contracts.read_register
use Rattle.steps_registers.specs.contracts.dump_registers
use Rattle.steps_registers.specs.contracts.read_port
use Rattle.steps_channels.specs.contracts.is_channel_muted
use Rattle.steps_channels.specs.contracts.get_channel_outputs
use Rattle.steps_channels.specs.contracts.set_channel_mute
use Rattle.steps_channels.specs.contracts.set_drum_sample_override
use Rattle.steps_effects.specs.contracts.set_timer_irq_state
use Rattle.steps_effects.specs.contracts.trigger_envelope
use Rattle.c_steps.specs.contracts.set_cpu_cycle as c_set_cpu_cycle
use Rattle.c_steps.specs.contracts.sync_sample_cycle as c_sync_sample_cycle
use Rattle.c_steps.specs.contracts.recorded as c_recorded
use Rattle.c_steps.specs.contracts.settled as c_settled
use Rattle.c_queue.specs.contracts.flush_pending_writes as c_flush_pending_writes
use Rattle.c_steps.specs.contracts.write_register as c_write_register
use Rattle.c_steps.specs.contracts.load_registers as c_load_registers
use Rattle.c_steps.specs.contracts.write_port_immediate as c_write_port_immediate
use Rattle.c_steps.specs.contracts.set_timer_irq_state as c_set_timer_irq_state
use Rattle.c_steps.specs.contracts.trigger_envelope as c_trigger_envelope
use Rattle.c_steps.specs.contracts.set_channel_mute as c_set_channel_mute
use Rattle.c_steps.specs.contracts.set_drum_sample_override as c_set_drum_sample_override
use Rattle.c_steps.specs.contracts.write_port as c_write_port
use Rattle.steps_words.specs.contracts.compute_next_sample as step_word
use Rattle.steps_blocks.specs.contracts.block as step_block
use Rattle.laws_one_answer.specs.Settled.{Settles}

pub record Steps : Type 2 where
  pub ring_in : Settles ring_in.ended (λ M 𝓤. ring_in.clauses)
  pub parts_in : Settles parts_in.ended (λ M 𝓤. parts_in.clauses)
  pub chip_in_range : Settles chip_in_range.ended (λ M 𝓤. chip_in_range.clauses)
  pub record_in_range : Settles record_in_range.ended (λ M 𝓤. record_in_range.clauses)
  pub set_cpu_cycle : Settles set_cpu_cycle.ended (λ M 𝓤. set_cpu_cycle.clauses)
  pub sync_sample_cycle : Settles sync_sample_cycle.ended (λ M 𝓤. sync_sample_cycle.clauses)
  pub cpu_cycle : Settles cpu_cycle.ended (λ M 𝓤. cpu_cycle.clauses)
  pub pending_write_count : Settles pending_write_count.ended (λ M 𝓤. pending_write_count.clauses)
  pub flush_pending_writes : Settles flush_pending_writes.ended (λ M 𝓤. flush_pending_writes.clauses)
  -- at every type that is copied, those of stamps and of bytes among them
  pub put : (T : RattleType) (g : _) (d : _) → Settles (put.ended T g d) (λ M 𝓤. put.clauses T g d)
  pub write_port : Settles write_port.ended (λ M 𝓤. write_port.clauses)
  pub write_register : Settles write_register.ended (λ M 𝓤. write_register.clauses)
  pub load_registers : Settles load_registers.ended (λ M 𝓤. load_registers.clauses)
  pub write_port_immediate : Settles write_port_immediate.ended (λ M 𝓤. write_port_immediate.clauses)
  pub bit_1_clear : Settles bit_1_clear.ended (λ M 𝓤. bit_1_clear.clauses)
  pub read_register : Settles read_register.ended (λ M 𝓤. read_register.clauses)
  pub dump_registers : Settles dump_registers.ended (λ M 𝓤. dump_registers.clauses)
  pub read_port : Settles read_port.ended (λ M 𝓤. read_port.clauses)
  pub is_channel_muted : Settles is_channel_muted.ended (λ M 𝓤. is_channel_muted.clauses)
  pub get_channel_outputs : Settles get_channel_outputs.ended (λ M 𝓤. get_channel_outputs.clauses)
  pub set_channel_mute : Settles set_channel_mute.ended (λ M 𝓤. set_channel_mute.clauses)
  pub set_drum_sample_override : Settles set_drum_sample_override.ended (λ M 𝓤. set_drum_sample_override.clauses)
  pub set_timer_irq_state : Settles set_timer_irq_state.ended (λ M 𝓤. set_timer_irq_state.clauses)
  pub trigger_envelope : Settles trigger_envelope.ended (λ M 𝓤. trigger_envelope.clauses)
  pub c_set_cpu_cycle : Settles c_set_cpu_cycle.ended (λ M 𝓤. c_set_cpu_cycle.clauses)
  pub c_sync_sample_cycle : Settles c_sync_sample_cycle.ended (λ M 𝓤. c_sync_sample_cycle.clauses)
  -- beside every type of step
  pub c_recorded : (S : RattleType) → Settles (c_recorded.ended S) (λ M 𝓤. c_recorded.clauses S)
  pub c_settled : Settles c_settled.ended (λ M 𝓤. c_settled.clauses)
  pub c_flush_pending_writes : Settles c_flush_pending_writes.ended (λ M 𝓤. c_flush_pending_writes.clauses)
  pub c_write_register : Settles c_write_register.ended (λ M 𝓤. c_write_register.clauses)
  pub c_load_registers : Settles c_load_registers.ended (λ M 𝓤. c_load_registers.clauses)
  pub c_write_port_immediate : Settles c_write_port_immediate.ended (λ M 𝓤. c_write_port_immediate.clauses)
  pub c_set_timer_irq_state : Settles c_set_timer_irq_state.ended (λ M 𝓤. c_set_timer_irq_state.clauses)
  pub c_trigger_envelope : Settles c_trigger_envelope.ended (λ M 𝓤. c_trigger_envelope.clauses)
  pub c_set_channel_mute : Settles c_set_channel_mute.ended (λ M 𝓤. c_set_channel_mute.clauses)
  pub c_set_drum_sample_override : Settles c_set_drum_sample_override.ended (λ M 𝓤. c_set_drum_sample_override.clauses)
  pub c_write_port : Settles c_write_port.ended (λ M 𝓤. c_write_port.clauses)
  pub step_word : Settles step_word.ended (λ M 𝓤. step_word.clauses)
  pub step_block : Settles step_block.ended (λ M 𝓤. step_block.clauses)
