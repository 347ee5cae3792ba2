-- Each by the law of its promise's form (`Laws`). Assumes nothing.
use Rattle.laws_one_answer.specs.Exported.{Exported}
use Rattle.laws_one_answer.proofs.Laws.{by_answer, by_chip, by_chip_and_buffer}

pub exported : Exported
exported =
    record {
      new = λ h x y. by_chip h.𝓤;
      with_clocks = λ h x y. by_chip h.𝓤;
      with_variant = λ h x y. by_chip h.𝓤;
      reset = λ h x y. by_chip h.𝓤;
      write_register = λ h x y. by_chip h.𝓤;
      load_registers = λ h x y. by_chip h.𝓤;
      write_port = λ h x y. by_chip h.𝓤;
      write_port_immediate = λ h x y. by_chip h.𝓤;
      set_cpu_cycle = λ h x y. by_chip h.𝓤;
      sync_sample_cycle = λ h x y. by_chip h.𝓤;
      flush_pending_writes = λ h x y. by_chip h.𝓤;
      set_timer_irq_state = λ h x y. by_chip h.𝓤;
      inside_timer_irq = λ h x y. by_chip h.𝓤;
      trigger_envelope = λ h x y. by_chip h.𝓤;
      set_channel_mute = λ h x y. by_chip h.𝓤;
      set_drum_sample_override = λ h x y. by_chip h.𝓤;
      compute_next_sample = λ h x y. by_chip h.𝓤;
      block = λ h x y. by_chip_and_buffer h.𝓤;
      read_register = λ h x y. by_answer h.𝓤;
      dump_registers = λ h x y. by_answer h.𝓤;
      read_port = λ h x y. by_answer h.𝓤;
      cpu_cycle = λ h x y. by_answer h.𝓤;
      pending_write_count = λ h x y. by_answer h.𝓤;
      is_channel_muted = λ h x y. by_answer h.𝓤;
      get_channel_outputs = λ h x y. by_answer h.𝓤;
    }
