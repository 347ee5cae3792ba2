-- Each by the law of its promise's form (`Laws`). Assumes nothing.
use Rattle.laws_one_answer.specs.Steps.{Steps}
use Rattle.laws_one_answer.proofs.Laws.{by_answer, by_array, by_buffer, by_first_of_three}

pub steps : Steps
steps =
    record {
      ring_in = λ h x y. by_answer h.𝓤;
      parts_in = λ h x y. by_answer h.𝓤;
      chip_in_range = λ h x y. by_first_of_three h.𝓤;
      record_in_range = λ h x y. by_first_of_three h.𝓤;
      set_cpu_cycle = λ h x y. by_answer h.𝓤;
      sync_sample_cycle = λ h x y. by_answer h.𝓤;
      cpu_cycle = λ h x y. by_answer h.𝓤;
      pending_write_count = λ h x y. by_answer h.𝓤;
      flush_pending_writes = λ h x y. by_answer h.𝓤;
      put = λ T g d h x y. by_array h.𝓤 (λ w. (w, (tt, (tt, tt))));
      write_port = λ h x y. by_answer h.𝓤;
      write_register = λ h x y. by_answer h.𝓤;
      load_registers = λ h x y. by_answer h.𝓤;
      write_port_immediate = λ h x y. by_answer h.𝓤;
      bit_1_clear = λ h x y. by_answer h.𝓤;
      read_register = λ h x y. by_answer h.𝓤;
      dump_registers = λ h x y. by_answer h.𝓤;
      read_port = λ h x y. by_answer h.𝓤;
      is_channel_muted = λ h x y. by_answer h.𝓤;
      get_channel_outputs = λ h x y. by_answer h.𝓤;
      set_channel_mute = λ h x y. by_answer h.𝓤;
      set_drum_sample_override = λ h x y. by_answer h.𝓤;
      set_timer_irq_state = λ h x y. by_answer h.𝓤;
      trigger_envelope = λ h x y. by_answer h.𝓤;
      c_set_cpu_cycle = λ h x y. by_answer h.𝓤;
      c_sync_sample_cycle = λ h x y. by_answer h.𝓤;
      c_recorded = λ S h x y. by_answer h.𝓤;
      c_settled = λ h x y. by_answer h.𝓤;
      c_flush_pending_writes = λ h x y. by_answer h.𝓤;
      c_write_register = λ h x y. by_answer h.𝓤;
      c_load_registers = λ h x y. by_answer h.𝓤;
      c_write_port_immediate = λ h x y. by_answer h.𝓤;
      c_set_timer_irq_state = λ h x y. by_answer h.𝓤;
      c_trigger_envelope = λ h x y. by_answer h.𝓤;
      c_set_channel_mute = λ h x y. by_answer h.𝓤;
      c_set_drum_sample_override = λ h x y. by_answer h.𝓤;
      c_write_port = λ h x y. by_answer h.𝓤;
      step_word = λ h x y. by_answer h.𝓤;
      step_block = λ h x y. by_buffer h.𝓤 (λ w. (tt, (tt, (tt, (w, (tt, (tt, (tt, (tt, tt)))))))));
    }
