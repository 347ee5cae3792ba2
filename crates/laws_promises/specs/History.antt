-- Histories of calls on a chip, and the ledger kept beside one. Definitions alone: nothing here is proved. Assumes nothing.
use Rattle.std.specs.Prelude.{Bool, true, false, cond, List, [], ◌∷◌, ◌++◌, ℕ, zero, suc, ◌+◌, eqb, length}
use Rattle.answers.specs.Answers.{answered}
use Rattle.answers.specs.declared.Answered.{Answered}
use Rattle.channel.specs.declared.Drum.{Drum}
use Rattle.clocking_block.specs.Block.{after_one}
use Rattle.clocking_word.specs.Word.{applied_by, end_of, word_of}
use Rattle.chip.specs.declared.Chip.{Chip}
use Rattle.calls_cycles.specs.Cycles.{cpu_cycle, flush_pending_writes, pending_write_count, set_cpu_cycle, sync_sample_cycle}
use Rattle.calls_effects.specs.Effects.{set_timer_irq_state, trigger_envelope}
use Rattle.calls_channels.specs.ChannelCalls.{get_channel_outputs, is_channel_muted, set_channel_mute, set_drum_sample_override}
use Rattle.calls_making.specs.Making.{reset_call}
use Rattle.calls_ports.specs.Ports.{bit1_clear, read_port, stamped, write_port, write_port_immediate}
use Rattle.queue.specs.Waiting.{waiting}
use Rattle.queue.specs.declared.Write.{Write}
use Rattle.refusals.specs.Numbers.{accepted}
use Rattle.calls_registers.specs.Stored.{dump_registers, load_registers, read_register, write_register}
use Rattle.calls_words.specs.Blocks.{blocked, sampled}

-- Every public call on a chip, with its arguments. (They may exceed the code's types: what holds of all holds of those.)
-- `new`, `with_clocks` and `with_variant` are no calls on a chip: they begin a history.
pub data Call : Type 0 where
  reset : Call
  write-register : (register value : ℕ) → Call
  load-registers : (bytes : List ℕ) → Call
  write-port : (port value : ℕ) → Call
  write-port-immediate : (port value : ℕ) → Call
  set-cpu-cycle : (cycle : ℕ) → Call
  sync-sample-cycle : (cycle : ℕ) → Call
  flush-pending-writes : Call
  set-timer-irq-state : (on : Bool) → Call
  inside-timer-irq : (inside : Bool) → Call
  trigger-envelope : Call
  set-channel-mute : (channel : ℕ) (muted : Bool) → Call
  set-drum-sample-override : (channel : ℕ) (drum : Drum) → Call
  compute-next-sample : Call
  block : (out : List ℕ) → Call
  read-register : (register : ℕ) → Call
  dump-registers : Call
  read-port : (port : ℕ) → Call
  cpu-cycle : Call
  pending-write-count : Call
  is-channel-muted : (channel : ℕ) → Call
  get-channel-outputs : Call

-- The number that a call answers and the chip that it leaves: each by the definition that its public promise cites, or reports on
-- (02, request 03). (`cabinet`'s calls on a lent chip promise the same definitions.) A call that only reads leaves the chip as it is.
unfoldable pub answers : Call → Chip → Answered
answers reset c = reset_call c
answers (write-register register value) c = write_register register value c
answers (load-registers bytes) c = load_registers bytes c
answers (write-port port value) c = write_port port value c
answers (write-port-immediate port value) c = write_port_immediate port value c
answers (set-cpu-cycle cycle) c = set_cpu_cycle cycle c
answers (sync-sample-cycle cycle) c = sync_sample_cycle cycle c
answers flush-pending-writes c = flush_pending_writes c
answers (set-timer-irq-state on) c = set_timer_irq_state on c
answers (inside-timer-irq inside) c = set_timer_irq_state inside c
answers trigger-envelope c = trigger_envelope c
answers (set-channel-mute channel muted) c = set_channel_mute channel muted c
answers (set-drum-sample-override channel drum) c = set_drum_sample_override channel drum c
answers compute-next-sample c = answered (sampled c).answer.no (sampled c).chip
answers (block out) c = answered (blocked (length out) c).answer.no (blocked (length out) c).chip
answers (read-register register) c = answered (read_register register c).no c
answers dump-registers c = answered (dump_registers c).no c
answers (read-port port) c = answered (read_port port c).no c
answers cpu-cycle c = answered (cpu_cycle c).no c
answers pending-write-count c = answered (pending_write_count c).no c
answers (is-channel-muted channel) c = answered (is_channel_muted channel c).no c
answers get-channel-outputs c = answered (get_channel_outputs c).no c

-- The chip after some calls, first to last.
unfoldable pub after : List Call → Chip → Chip
after [] c = c
after (x ∷ calls) c = after calls (answers x c).chip

-- A word as the ledger enters it: the cycle that it ends at, the waiting writes that it applies, the ticks that it runs, its value.
pub record Entry : Type 0 where
  pub end : ℕ
  pub applied : List Write
  pub ticks : ℕ
  pub value : ℕ

abbrev pub entry_of : Chip → Entry
entry_of c =
    record {
      end = end_of c.core;
      applied = applied_by c.core c.queue;
      ticks = (word_of c.core c.queue).ticks;
      value = (word_of c.core c.queue).word;
    }

-- n words, one after the other
unfoldable pub entries : ℕ → Chip → List Entry
entries zero c = []
entries (suc n) c = entry_of c ∷ entries n (after_one c)

-- The ticks that some words ran, and the waiting writes that they applied, in order.
abbrev pub ticks_in : List Entry → ℕ
ticks_in [] = 0
ticks_in (w ∷ ws) = w.ticks + ticks_in ws

abbrev pub applied_in : List Entry → List Write
applied_in [] = []
applied_in (w ∷ ws) = w.applied ++ applied_in ws

-- A write to 13 restarts the envelope, "even for the same byte".
abbrev pub restart_in : List Write → Bool
restart_in [] = false
restart_in (w ∷ writes) = cond (eqb w.register 13) true (restart_in writes)

-- A ledger: the words rendered, the data writes accepted for the queue, and the waiting writes applied, each in order; and whether
-- the envelope was restarted.
pub record Ledger : Type 0 where
  pub words : List Entry
  pub accepted : List Write
  pub applied : List Write
  pub restarted : Bool

abbrev pub empty_ledger : Ledger
empty_ledger = record { words = []; accepted = []; applied = []; restarted = false }

abbrev pub accepts : List Write → Ledger → Ledger
accepts writes l = record { words = l.words; accepted = l.accepted ++ writes; applied = l.applied; restarted = l.restarted }

abbrev pub restarts : Bool → Ledger → Ledger
restarts now l = record { words = l.words; accepted = l.accepted; applied = l.applied; restarted = cond now true l.restarted }

abbrev pub applies : List Write → Ledger → Ledger
applies writes l =
    restarts (restart_in writes)
    (record { words = l.words; accepted = l.accepted; applied = l.applied ++ writes; restarted = l.restarted })

abbrev pub renders : List Entry → Ledger → Ledger
renders ws l =
    applies (applied_in ws) (record { words = l.words ++ ws; accepted = l.accepted; applied = l.applied; restarted = l.restarted })

-- "Port bit 1 clear selects"; "set, it queues the write": only then is it a data write.
abbrev pub data_write : ℕ → Write → List Write
data_write port write = cond (bit1_clear port) [] (write ∷ [])

-- What an accepted call enters: a port write its data write, a flush what waits, a block its words; a reset begins anew.
unfoldable pub enters : Call → Chip → Ledger → Ledger
enters reset c l = empty_ledger
enters (write-register register value) c l = restarts (eqb register 13) l
enters (load-registers bytes) c l = restarts true l
enters (write-port port value) c l = accepts (data_write port (stamped value c)) l
enters (write-port-immediate port value) c l = restarts (restart_in (data_write port (stamped value c))) l
enters (set-cpu-cycle cycle) c l = l
enters (sync-sample-cycle cycle) c l = l
enters flush-pending-writes c l = applies (waiting c.queue) l
enters (set-timer-irq-state on) c l = l
enters (inside-timer-irq inside) c l = l
enters trigger-envelope c l = restarts true l
enters (set-channel-mute channel muted) c l = l
enters (set-drum-sample-override channel drum) c l = l
enters compute-next-sample c l = renders (entries 1 c) l
enters (block out) c l = renders (entries (length out) c) l
enters (read-register register) c l = l
enters dump-registers c l = l
enters (read-port port) c l = l
enters cpu-cycle c l = l
enters pending-write-count c l = l
enters (is-channel-muted channel) c l = l
enters get-channel-outputs c l = l

-- A call is accepted that answers 0. A refused one enters nothing.
abbrev pub is_accepted : ℕ → Bool
is_accepted number = eqb number accepted

unfoldable pub entered : Call → Chip → Ledger → Ledger
entered x c l = cond (is_accepted (answers x c).no) (enters x c l) l

-- The ledger after some calls on the chip.
unfoldable pub ledger : List Call → Chip → Ledger → Ledger
ledger [] c l = l
ledger (x ∷ calls) c l = ledger calls (answers x c).chip (entered x c l)
