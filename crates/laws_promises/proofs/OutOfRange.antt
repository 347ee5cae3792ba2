-- A record out of range gives 22, whatever is called, and stays as it is. 01, "Numbers a call can answer". Assumes nothing.
use mathlib.Core.Bool.{false}
use mathlib.Core.Path.{◌≡◌}
use Rattle.refusals.specs.Numbers.{out_of_range}
use Rattle.chip.specs.declared.Chip.{Chip}
use Rattle.chip.specs.Range.{chip_in}
use Rattle.answers.specs.Answers.{answered}
use Rattle.calls_making.specs.Making.{reset_call}
use Rattle.calls_registers.specs.Stored.{dump_registers, load_registers, read_register, write_register}
use Rattle.calls_ports.specs.Ports.{read_port, write_port, write_port_immediate}
use Rattle.calls_cycles.specs.Cycles.{cpu_cycle, flush_pending_writes, pending_write_count, set_cpu_cycle, sync_sample_cycle}
use Rattle.calls_effects.specs.Effects.{set_timer_irq_state, trigger_envelope}
use Rattle.calls_channels.specs.ChannelCalls.{get_channel_outputs, is_channel_muted, set_channel_mute, set_drum_sample_override}
use Rattle.calls_words.specs.Blocks.{blocked, sampled}
use Rattle.laws_promises.specs.History
use Rattle.laws_promises.specs.History.{Call, answers}

pub out_of_range_lem : (x : Call) (c : Chip) → chip_in c ≡ false → answers x c ≡ answered out_of_range c
unfolding answers reset_call write_register load_registers write_port write_port_immediate set_cpu_cycle sync_sample_cycle flush_pending_writes set_timer_irq_state trigger_envelope set_channel_mute set_drum_sample_override sampled blocked read_register dump_registers read_port cpu_cycle pending_write_count is_channel_muted get_channel_outputs
out_of_range_lem History.reset c e = rw e
out_of_range_lem (History.write-register register value) c e = rw e
out_of_range_lem (History.load-registers bytes) c e = rw e
out_of_range_lem (History.write-port port value) c e = rw e
out_of_range_lem (History.write-port-immediate port value) c e = rw e
out_of_range_lem (History.set-cpu-cycle cycle) c e = rw e
out_of_range_lem (History.sync-sample-cycle cycle) c e = rw e
out_of_range_lem History.flush-pending-writes c e = rw e
out_of_range_lem (History.set-timer-irq-state on) c e = rw e
out_of_range_lem (History.inside-timer-irq inside) c e = rw e
out_of_range_lem History.trigger-envelope c e = rw e
out_of_range_lem (History.set-channel-mute channel muted) c e = rw e
out_of_range_lem (History.set-drum-sample-override channel drum) c e = rw e
out_of_range_lem History.compute-next-sample c e = rw e
out_of_range_lem (History.block out) c e = rw e
out_of_range_lem (History.read-register register) c e = rw e
out_of_range_lem History.dump-registers c e = rw e
out_of_range_lem (History.read-port port) c e = rw e
out_of_range_lem History.cpu-cycle c e = rw e
out_of_range_lem History.pending-write-count c e = rw e
out_of_range_lem (History.is-channel-muted channel) c e = rw e
out_of_range_lem History.get-channel-outputs c e = rw e
