-- Calls on the record that a C or Rust host owns, and the chip that it holds after them: so demand 3 reaches the calls that are linked.
-- Above, what each call leaves; below, what is claimed, and proved in `proofs/Hosts.antt`. 01, "One tick, one word". Assumes nothing.
use Rattle.std.specs.Prelude.{List, [], ◌∷◌, ◌≡◌, ℕ, length}
use Rattle.refusals.specs.Numbers.{accepted}
use Rattle.chip.specs.declared.Chip.{Chip}
use Rattle.answers.specs.Answers.{answered}
use Rattle.calls_making.specs.Making.{default_master, default_rate, default_variant, fresh, reset_call, with_clocks, with_variant}
use Rattle.variants.specs.Variants.{making_no}
use Rattle.calls_registers.specs.Stored.{dump_registers, loaded_registers, read_register, wrote_register}
use Rattle.calls_ports.specs.Ports.{read_port, write_port, wrote_port_immediate}
use Rattle.calls_cycles.specs.Cycles.{cpu_cycle, flushed_pending_writes, pending_write_count, set_cpu_cycle, sync_sample_cycle}
use Rattle.calls_effects.specs.Effects.{set_timer_irq_state, trigger_envelope}
use Rattle.calls_channels.specs.ChannelCalls.{get_channel_outputs, is_channel_muted, set_channel_mute, set_drum_sample_override}
use Rattle.c_record.specs.declared.Record.{Record}
use Rattle.c_record.specs.Record.{chip_of, record_of}
use Rattle.c_told.specs.declared.Told.{Told}
use Rattle.c_making.specs.Making.{new_record}
use Rattle.c_words.specs.Words.{next_block, next_word}
use Rattle.c_calls.specs.Calls.{apply_on, on_record, write_on}
use Rattle.laws_promises.specs.History.{Call, answers, after, empty_ledger, ledger}
use Rattle.laws_promises.specs.History.{reset, write-register, load-registers, write-port, write-port-immediate, set-cpu-cycle, sync-sample-cycle}
use Rattle.laws_promises.specs.History.{flush-pending-writes, set-timer-irq-state, inside-timer-irq, trigger-envelope, set-channel-mute, set-drum-sample-override}
use Rattle.laws_promises.specs.History.{compute-next-sample, block, read-register, dump-registers, read-port, cpu-cycle, pending-write-count, is-channel-muted, get-channel-outputs}
use Rattle.laws_promises.specs.Demand.{Holds}

-- the record that is left, and the number that is answered
abbrev pub leaving : ℕ → Record → Told
leaving number x = record { chip = x; no = number }

-- What each exported call does to a host's record: by the definition that its promise in `c_interface` cites. A call that only reads
-- leaves the record as it is. (A drum is handed over as a flag and a level; the call has the drum that they say.)
unfoldable pub tells : Call → Record → Told
tells reset x = on_record reset_call x
tells (write-register register value) x = let t = write_on (wrote_register register value) x in leaving t.answer.no t.chip
tells (load-registers bytes) x = let t = apply_on (loaded_registers bytes) x in leaving t.answer.no t.chip
tells (write-port port value) x = on_record (write_port port value) x
tells (write-port-immediate port value) x = let t = write_on (wrote_port_immediate port value) x in leaving t.answer.no t.chip
tells (set-cpu-cycle cycle) x = on_record (set_cpu_cycle cycle) x
tells (sync-sample-cycle cycle) x = on_record (sync_sample_cycle cycle) x
tells flush-pending-writes x = let t = apply_on flushed_pending_writes x in leaving t.answer.no t.chip
tells (set-timer-irq-state on) x = on_record (set_timer_irq_state on) x
tells (inside-timer-irq inside) x = on_record (set_timer_irq_state inside) x
tells trigger-envelope x = on_record trigger_envelope x
tells (set-channel-mute channel muted) x = on_record (set_channel_mute channel muted) x
tells (set-drum-sample-override channel drum) x = on_record (set_drum_sample_override channel drum) x
tells compute-next-sample x = leaving (next_word x).answer.no (next_word x).chip
tells (block out) x = leaving (next_block (length out) x).answer.no (next_block (length out) x).chip
tells (read-register register) x = leaving (read_register register (chip_of x)).no x
tells dump-registers x = leaving (dump_registers (chip_of x)).no x
tells (read-port port) x = leaving (read_port port (chip_of x)).no x
tells cpu-cycle x = leaving (cpu_cycle (chip_of x)).no x
tells pending-write-count x = leaving (pending_write_count (chip_of x)).no x
tells (is-channel-muted channel) x = leaving (is_channel_muted channel (chip_of x)).no x
tells get-channel-outputs x = leaving (get_channel_outputs (chip_of x)).no x

-- The record after some calls, first to last.
unfoldable pub left_by : List Call → Record → Record
left_by [] x = x
left_by (call ∷ calls) x = left_by calls (tells call x).chip

-- the record that a making writes
abbrev pub made_record : ℕ → ℕ → ℕ → Record
made_record master rate variant = (new_record (with_variant master rate variant)).chip

pub record Hosts : Type 0 where
  -- A chip that is put into a record is had from it again. (Not the other way: a drum that is off forgets its level.)
  pub kept : (c : Chip) → chip_of (record_of c) ≡ c
  -- A call answers the number that the chip in the record answers, and leaves a record that holds the chip that this leaves: for every
  -- record, in range or not, and whether the call is refused or not.
  pub number : (call : Call) (x : Record) → (tells call x).no ≡ (answers call (chip_of x)).no
  pub chip : (call : Call) (x : Record) → chip_of (tells call x).chip ≡ (answers call (chip_of x)).chip
  -- So after any calls the record holds the chip after those calls.
  pub follows : (calls : List Call) (x : Record) → chip_of (left_by calls x) ≡ after calls (chip_of x)
  -- A making's record holds the chip that is made; by clocks alone it is that of the default variant. A new one is that of the default
  -- clocks and variant, and so is what a refused making writes.
  pub begins : (master rate variant : ℕ) → chip_of (made_record master rate variant) ≡ (with_variant master rate variant).chip
  pub by-clocks : (master rate : ℕ) → (new_record (with_clocks master rate)).chip ≡ made_record master rate default_variant
  pub new : (new_record (answered accepted fresh)).chip ≡ made_record default_master default_rate default_variant
  pub refused : (master rate variant : ℕ) → (making_no master rate variant ≡ accepted → ⊥)
      → made_record master rate variant ≡ made_record default_master default_rate default_variant
  -- Demand 3 holds, whole, of the chip in a host's record over any calls since an accepted making.
  pub demand : (master rate variant : ℕ) → making_no master rate variant ≡ accepted → (calls : List Call)
      → Holds master rate variant (chip_of (left_by calls (made_record master rate variant)))
      (ledger calls (chip_of (made_record master rate variant)) empty_ledger)
