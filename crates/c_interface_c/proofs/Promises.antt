-- Both are generated from the same text. Assumes nothing.
use mathlib.Core.Path.{refl}
use Rattle.c_interface_c.specs.Promises.{SamePromises}

pub same_promises : SamePromises
same_promises =
    record {
      new = refl;
      with_clocks = refl;
      with_variant = refl;
      reset = refl;
      write_register = refl;
      load_registers = refl;
      write_port = refl;
      write_port_immediate = refl;
      set_cpu_cycle = refl;
      sync_sample_cycle = refl;
      flush_pending_writes = refl;
      set_timer_irq_state = refl;
      inside_timer_irq = refl;
      trigger_envelope = refl;
      set_channel_mute = refl;
      set_drum_sample_override = refl;
      compute_next_sample = refl;
      block = refl;
      read_register = refl;
      dump_registers = refl;
      read_port = refl;
      cpu_cycle = refl;
      pending_write_count = refl;
      is_channel_muted = refl;
      get_channel_outputs = refl;
    }
