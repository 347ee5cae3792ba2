-- Every call of `cabinet` and `cabinet_words` is settled, what it leaves in the lent chip and the lent buffer included (`Settled`). Assumes nothing.
use Rattle.cabinet.specs.contracts.reset
use Rattle.cabinet.specs.contracts.write_register
use Rattle.cabinet.specs.contracts.load_registers
use Rattle.cabinet.specs.contracts.write_port
use Rattle.cabinet.specs.contracts.write_port_immediate
use Rattle.cabinet.specs.contracts.set_cpu_cycle
use Rattle.cabinet.specs.contracts.sync_sample_cycle
use Rattle.cabinet.specs.contracts.flush_pending_writes
use Rattle.cabinet.specs.contracts.set_timer_irq_state
use Rattle.cabinet.specs.contracts.inside_timer_irq
use Rattle.cabinet.specs.contracts.trigger_envelope
use Rattle.cabinet.specs.contracts.set_channel_mute
use Rattle.cabinet.specs.contracts.set_drum_sample_override
use Rattle.cabinet_words.specs.contracts.compute_next_sample
use Rattle.cabinet_words.specs.contracts.block
use Rattle.cabinet.specs.contracts.read_register
use Rattle.cabinet.specs.contracts.dump_registers
use Rattle.cabinet.specs.contracts.read_port
use Rattle.cabinet.specs.contracts.cpu_cycle
use Rattle.cabinet.specs.contracts.pending_write_count
use Rattle.cabinet.specs.contracts.is_channel_muted
use Rattle.cabinet.specs.contracts.get_channel_outputs
use Rattle.laws_one_answer.specs.Settled.{Settles}

pub record Lent : Type 2 where
  pub reset : Settles reset.ended (λ M 𝓤. reset.clauses)
  pub write_register : Settles write_register.ended (λ M 𝓤. write_register.clauses)
  pub load_registers : Settles load_registers.ended (λ M 𝓤. load_registers.clauses)
  pub write_port : Settles write_port.ended (λ M 𝓤. write_port.clauses)
  pub write_port_immediate : Settles write_port_immediate.ended (λ M 𝓤. write_port_immediate.clauses)
  pub set_cpu_cycle : Settles set_cpu_cycle.ended (λ M 𝓤. set_cpu_cycle.clauses)
  pub sync_sample_cycle : Settles sync_sample_cycle.ended (λ M 𝓤. sync_sample_cycle.clauses)
  pub flush_pending_writes : Settles flush_pending_writes.ended (λ M 𝓤. flush_pending_writes.clauses)
  pub set_timer_irq_state : Settles set_timer_irq_state.ended (λ M 𝓤. set_timer_irq_state.clauses)
  pub inside_timer_irq : Settles inside_timer_irq.ended (λ M 𝓤. inside_timer_irq.clauses)
  pub trigger_envelope : Settles trigger_envelope.ended (λ M 𝓤. trigger_envelope.clauses)
  pub set_channel_mute : Settles set_channel_mute.ended (λ M 𝓤. set_channel_mute.clauses)
  pub set_drum_sample_override : Settles set_drum_sample_override.ended (λ M 𝓤. set_drum_sample_override.clauses)
  pub compute_next_sample : Settles compute_next_sample.ended (λ M 𝓤. compute_next_sample.clauses)
  pub block : Settles block.ended (λ M 𝓤. block.clauses)
  pub read_register : Settles read_register.ended (λ M 𝓤. read_register.clauses)
  pub dump_registers : Settles dump_registers.ended (λ M 𝓤. dump_registers.clauses)
  pub read_port : Settles read_port.ended (λ M 𝓤. read_port.clauses)
  pub cpu_cycle : Settles cpu_cycle.ended (λ M 𝓤. cpu_cycle.clauses)
  pub pending_write_count : Settles pending_write_count.ended (λ M 𝓤. pending_write_count.clauses)
  pub is_channel_muted : Settles is_channel_muted.ended (λ M 𝓤. is_channel_muted.clauses)
  pub get_channel_outputs : Settles get_channel_outputs.ended (λ M 𝓤. get_channel_outputs.clauses)
