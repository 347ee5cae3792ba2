-- A call that C or Rust links promises what `c_interface`'s call of its name promises; that such a promise leaves one answer is
-- settled there (crates/laws_one_answer/specs/Exported.antt). Assumes nothing.
use Rattle.std.specs.Prelude.{◌≡◌}
use seplogic.Ra.Ura.{Ura}
use base.Logic.{SProp}
use contract.Monad.{Fun}
use denote.Triple.Clauses.{Clauses, Ended}
use types.Logic.{Logic}
use prog.Memory.{Memory}
use prog.Routine.{Routine}
use Rattle.c_interface.specs.contracts.ym2149_new as new
use Rattle.c_interface.specs.contracts.ym2149_with_clocks as with_clocks
use Rattle.c_interface.specs.contracts.ym2149_with_variant as with_variant
use Rattle.c_interface.specs.contracts.ym2149_reset as reset
use Rattle.c_interface.specs.contracts.ym2149_write_register as write_register
use Rattle.c_interface.specs.contracts.ym2149_load_registers as load_registers
use Rattle.c_interface.specs.contracts.ym2149_write_port as write_port
use Rattle.c_interface.specs.contracts.ym2149_write_port_immediate as write_port_immediate
use Rattle.c_interface.specs.contracts.ym2149_set_cpu_cycle as set_cpu_cycle
use Rattle.c_interface.specs.contracts.ym2149_sync_sample_cycle as sync_sample_cycle
use Rattle.c_interface.specs.contracts.ym2149_flush_pending_writes as flush_pending_writes
use Rattle.c_interface.specs.contracts.ym2149_set_timer_irq_state as set_timer_irq_state
use Rattle.c_interface.specs.contracts.ym2149_inside_timer_irq as inside_timer_irq
use Rattle.c_interface.specs.contracts.ym2149_trigger_envelope as trigger_envelope
use Rattle.c_interface.specs.contracts.ym2149_set_channel_mute as set_channel_mute
use Rattle.c_interface.specs.contracts.ym2149_set_drum_sample_override as set_drum_sample_override
use Rattle.c_interface.specs.contracts.ym2149_compute_next_sample as compute_next_sample
use Rattle.c_interface.specs.contracts.ym2149_block as block
use Rattle.c_interface.specs.contracts.ym2149_read_register as read_register
use Rattle.c_interface.specs.contracts.ym2149_dump_registers as dump_registers
use Rattle.c_interface.specs.contracts.ym2149_read_port as read_port
use Rattle.c_interface.specs.contracts.ym2149_cpu_cycle as cpu_cycle
use Rattle.c_interface.specs.contracts.ym2149_pending_write_count as pending_write_count
use Rattle.c_interface.specs.contracts.ym2149_is_channel_muted as is_channel_muted
use Rattle.c_interface.specs.contracts.ym2149_get_channel_outputs as get_channel_outputs
use Rattle.c_interface_c.specs.contracts.ym2149_new
use Rattle.c_interface_c.specs.contracts.ym2149_with_clocks
use Rattle.c_interface_c.specs.contracts.ym2149_with_variant
use Rattle.c_interface_c.specs.contracts.ym2149_reset
use Rattle.c_interface_c.specs.contracts.ym2149_write_register
use Rattle.c_interface_c.specs.contracts.ym2149_load_registers
use Rattle.c_interface_c.specs.contracts.ym2149_write_port
use Rattle.c_interface_c.specs.contracts.ym2149_write_port_immediate
use Rattle.c_interface_c.specs.contracts.ym2149_set_cpu_cycle
use Rattle.c_interface_c.specs.contracts.ym2149_sync_sample_cycle
use Rattle.c_interface_c.specs.contracts.ym2149_flush_pending_writes
use Rattle.c_interface_c.specs.contracts.ym2149_set_timer_irq_state
use Rattle.c_interface_c.specs.contracts.ym2149_inside_timer_irq
use Rattle.c_interface_c.specs.contracts.ym2149_trigger_envelope
use Rattle.c_interface_c.specs.contracts.ym2149_set_channel_mute
use Rattle.c_interface_c.specs.contracts.ym2149_set_drum_sample_override
use Rattle.c_interface_c.specs.contracts.ym2149_compute_next_sample
use Rattle.c_interface_c.specs.contracts.ym2149_block
use Rattle.c_interface_c.specs.contracts.ym2149_read_register
use Rattle.c_interface_c.specs.contracts.ym2149_dump_registers
use Rattle.c_interface_c.specs.contracts.ym2149_read_port
use Rattle.c_interface_c.specs.contracts.ym2149_cpu_cycle
use Rattle.c_interface_c.specs.contracts.ym2149_pending_write_count
use Rattle.c_interface_c.specs.contracts.ym2149_is_channel_muted
use Rattle.c_interface_c.specs.contracts.ym2149_get_channel_outputs

-- what is passed and answered, and the clauses that are generated from a contract, in every model of the logic
pub record Promise : Type 2 where
  pub ended : Ended
  pub clauses : (M : Type 1) (𝓤 : Ura M) → Logic 𝓤 → (Memory → SProp 𝓤) → (Routine → Fun 𝓤) → Clauses 𝓤 ended

abbrev pub Same : Promise → Promise → Type 2
Same p q = p ≡ q

pub record SamePromises : Type 2 where
  pub new : Same (record { ended = ym2149_new.ended; clauses = λ M 𝓤. ym2149_new.clauses }) (record { ended = new.ended; clauses = λ M 𝓤. new.clauses })
  pub with_clocks : Same (record { ended = ym2149_with_clocks.ended; clauses = λ M 𝓤. ym2149_with_clocks.clauses }) (record { ended = with_clocks.ended; clauses = λ M 𝓤. with_clocks.clauses })
  pub with_variant : Same (record { ended = ym2149_with_variant.ended; clauses = λ M 𝓤. ym2149_with_variant.clauses }) (record { ended = with_variant.ended; clauses = λ M 𝓤. with_variant.clauses })
  pub reset : Same (record { ended = ym2149_reset.ended; clauses = λ M 𝓤. ym2149_reset.clauses }) (record { ended = reset.ended; clauses = λ M 𝓤. reset.clauses })
  pub write_register : Same (record { ended = ym2149_write_register.ended; clauses = λ M 𝓤. ym2149_write_register.clauses }) (record { ended = write_register.ended; clauses = λ M 𝓤. write_register.clauses })
  pub load_registers : Same (record { ended = ym2149_load_registers.ended; clauses = λ M 𝓤. ym2149_load_registers.clauses }) (record { ended = load_registers.ended; clauses = λ M 𝓤. load_registers.clauses })
  pub write_port : Same (record { ended = ym2149_write_port.ended; clauses = λ M 𝓤. ym2149_write_port.clauses }) (record { ended = write_port.ended; clauses = λ M 𝓤. write_port.clauses })
  pub write_port_immediate : Same (record { ended = ym2149_write_port_immediate.ended; clauses = λ M 𝓤. ym2149_write_port_immediate.clauses }) (record { ended = write_port_immediate.ended; clauses = λ M 𝓤. write_port_immediate.clauses })
  pub set_cpu_cycle : Same (record { ended = ym2149_set_cpu_cycle.ended; clauses = λ M 𝓤. ym2149_set_cpu_cycle.clauses }) (record { ended = set_cpu_cycle.ended; clauses = λ M 𝓤. set_cpu_cycle.clauses })
  pub sync_sample_cycle : Same (record { ended = ym2149_sync_sample_cycle.ended; clauses = λ M 𝓤. ym2149_sync_sample_cycle.clauses }) (record { ended = sync_sample_cycle.ended; clauses = λ M 𝓤. sync_sample_cycle.clauses })
  pub flush_pending_writes : Same (record { ended = ym2149_flush_pending_writes.ended; clauses = λ M 𝓤. ym2149_flush_pending_writes.clauses }) (record { ended = flush_pending_writes.ended; clauses = λ M 𝓤. flush_pending_writes.clauses })
  pub set_timer_irq_state : Same (record { ended = ym2149_set_timer_irq_state.ended; clauses = λ M 𝓤. ym2149_set_timer_irq_state.clauses }) (record { ended = set_timer_irq_state.ended; clauses = λ M 𝓤. set_timer_irq_state.clauses })
  pub inside_timer_irq : Same (record { ended = ym2149_inside_timer_irq.ended; clauses = λ M 𝓤. ym2149_inside_timer_irq.clauses }) (record { ended = inside_timer_irq.ended; clauses = λ M 𝓤. inside_timer_irq.clauses })
  pub trigger_envelope : Same (record { ended = ym2149_trigger_envelope.ended; clauses = λ M 𝓤. ym2149_trigger_envelope.clauses }) (record { ended = trigger_envelope.ended; clauses = λ M 𝓤. trigger_envelope.clauses })
  pub set_channel_mute : Same (record { ended = ym2149_set_channel_mute.ended; clauses = λ M 𝓤. ym2149_set_channel_mute.clauses }) (record { ended = set_channel_mute.ended; clauses = λ M 𝓤. set_channel_mute.clauses })
  pub set_drum_sample_override : Same (record { ended = ym2149_set_drum_sample_override.ended; clauses = λ M 𝓤. ym2149_set_drum_sample_override.clauses }) (record { ended = set_drum_sample_override.ended; clauses = λ M 𝓤. set_drum_sample_override.clauses })
  pub compute_next_sample : Same (record { ended = ym2149_compute_next_sample.ended; clauses = λ M 𝓤. ym2149_compute_next_sample.clauses }) (record { ended = compute_next_sample.ended; clauses = λ M 𝓤. compute_next_sample.clauses })
  pub block : Same (record { ended = ym2149_block.ended; clauses = λ M 𝓤. ym2149_block.clauses }) (record { ended = block.ended; clauses = λ M 𝓤. block.clauses })
  pub read_register : Same (record { ended = ym2149_read_register.ended; clauses = λ M 𝓤. ym2149_read_register.clauses }) (record { ended = read_register.ended; clauses = λ M 𝓤. read_register.clauses })
  pub dump_registers : Same (record { ended = ym2149_dump_registers.ended; clauses = λ M 𝓤. ym2149_dump_registers.clauses }) (record { ended = dump_registers.ended; clauses = λ M 𝓤. dump_registers.clauses })
  pub read_port : Same (record { ended = ym2149_read_port.ended; clauses = λ M 𝓤. ym2149_read_port.clauses }) (record { ended = read_port.ended; clauses = λ M 𝓤. read_port.clauses })
  pub cpu_cycle : Same (record { ended = ym2149_cpu_cycle.ended; clauses = λ M 𝓤. ym2149_cpu_cycle.clauses }) (record { ended = cpu_cycle.ended; clauses = λ M 𝓤. cpu_cycle.clauses })
  pub pending_write_count : Same (record { ended = ym2149_pending_write_count.ended; clauses = λ M 𝓤. ym2149_pending_write_count.clauses }) (record { ended = pending_write_count.ended; clauses = λ M 𝓤. pending_write_count.clauses })
  pub is_channel_muted : Same (record { ended = ym2149_is_channel_muted.ended; clauses = λ M 𝓤. ym2149_is_channel_muted.clauses }) (record { ended = is_channel_muted.ended; clauses = λ M 𝓤. is_channel_muted.clauses })
  pub get_channel_outputs : Same (record { ended = ym2149_get_channel_outputs.ended; clauses = λ M 𝓤. ym2149_get_channel_outputs.clauses }) (record { ended = get_channel_outputs.ended; clauses = λ M 𝓤. get_channel_outputs.clauses })
