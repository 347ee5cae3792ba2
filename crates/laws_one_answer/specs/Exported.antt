-- Every call of `c_interface` is settled, what it leaves in the lent record and the lent buffer included (`Settled`). Assumes nothing.
use Rattle.c_interface.specs.contracts.ym2149_new as new
use Rattle.c_interface.specs.contracts.ym2149_with_clocks as with_clocks
use Rattle.c_interface.specs.contracts.ym2149_with_variant as with_variant
use Rattle.c_interface.specs.contracts.ym2149_reset as reset
use Rattle.c_interface.specs.contracts.ym2149_write_register as write_register
use Rattle.c_interface.specs.contracts.ym2149_load_registers as load_registers
use Rattle.c_interface.specs.contracts.ym2149_write_port as write_port
use Rattle.c_interface.specs.contracts.ym2149_write_port_immediate as write_port_immediate
use Rattle.c_interface.specs.contracts.ym2149_set_cpu_cycle as set_cpu_cycle
use Rattle.c_interface.specs.contracts.ym2149_sync_sample_cycle as sync_sample_cycle
use Rattle.c_interface.specs.contracts.ym2149_flush_pending_writes as flush_pending_writes
use Rattle.c_interface.specs.contracts.ym2149_set_timer_irq_state as set_timer_irq_state
use Rattle.c_interface.specs.contracts.ym2149_inside_timer_irq as inside_timer_irq
use Rattle.c_interface.specs.contracts.ym2149_trigger_envelope as trigger_envelope
use Rattle.c_interface.specs.contracts.ym2149_set_channel_mute as set_channel_mute
use Rattle.c_interface.specs.contracts.ym2149_set_drum_sample_override as set_drum_sample_override
use Rattle.c_interface.specs.contracts.ym2149_compute_next_sample as compute_next_sample
use Rattle.c_interface.specs.contracts.ym2149_block as block
use Rattle.c_interface.specs.contracts.ym2149_read_register as read_register
use Rattle.c_interface.specs.contracts.ym2149_dump_registers as dump_registers
use Rattle.c_interface.specs.contracts.ym2149_read_port as read_port
use Rattle.c_interface.specs.contracts.ym2149_cpu_cycle as cpu_cycle
use Rattle.c_interface.specs.contracts.ym2149_pending_write_count as pending_write_count
use Rattle.c_interface.specs.contracts.ym2149_is_channel_muted as is_channel_muted
use Rattle.c_interface.specs.contracts.ym2149_get_channel_outputs as get_channel_outputs
use Rattle.laws_one_answer.specs.Settled.{Settles}

pub record Exported : Type 2 where
  pub new : Settles new.ended (λ M 𝓤. new.clauses)
  pub with_clocks : Settles with_clocks.ended (λ M 𝓤. with_clocks.clauses)
  pub with_variant : Settles with_variant.ended (λ M 𝓤. with_variant.clauses)
  pub reset : Settles reset.ended (λ M 𝓤. reset.clauses)
  pub write_register : Settles write_register.ended (λ M 𝓤. write_register.clauses)
  pub load_registers : Settles load_registers.ended (λ M 𝓤. load_registers.clauses)
  pub write_port : Settles write_port.ended (λ M 𝓤. write_port.clauses)
  pub write_port_immediate : Settles write_port_immediate.ended (λ M 𝓤. write_port_immediate.clauses)
  pub set_cpu_cycle : Settles set_cpu_cycle.ended (λ M 𝓤. set_cpu_cycle.clauses)
  pub sync_sample_cycle : Settles sync_sample_cycle.ended (λ M 𝓤. sync_sample_cycle.clauses)
  pub flush_pending_writes : Settles flush_pending_writes.ended (λ M 𝓤. flush_pending_writes.clauses)
  pub set_timer_irq_state : Settles set_timer_irq_state.ended (λ M 𝓤. set_timer_irq_state.clauses)
  pub inside_timer_irq : Settles inside_timer_irq.ended (λ M 𝓤. inside_timer_irq.clauses)
  pub trigger_envelope : Settles trigger_envelope.ended (λ M 𝓤. trigger_envelope.clauses)
  pub set_channel_mute : Settles set_channel_mute.ended (λ M 𝓤. set_channel_mute.clauses)
  pub set_drum_sample_override : Settles set_drum_sample_override.ended (λ M 𝓤. set_drum_sample_override.clauses)
  pub compute_next_sample : Settles compute_next_sample.ended (λ M 𝓤. compute_next_sample.clauses)
  pub block : Settles block.ended (λ M 𝓤. block.clauses)
  pub read_register : Settles read_register.ended (λ M 𝓤. read_register.clauses)
  pub dump_registers : Settles dump_registers.ended (λ M 𝓤. dump_registers.clauses)
  pub read_port : Settles read_port.ended (λ M 𝓤. read_port.clauses)
  pub cpu_cycle : Settles cpu_cycle.ended (λ M 𝓤. cpu_cycle.clauses)
  pub pending_write_count : Settles pending_write_count.ended (λ M 𝓤. pending_write_count.clauses)
  pub is_channel_muted : Settles is_channel_muted.ended (λ M 𝓤. is_channel_muted.clauses)
  pub get_channel_outputs : Settles get_channel_outputs.ended (λ M 𝓤. get_channel_outputs.clauses)
