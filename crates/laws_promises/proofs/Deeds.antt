-- What a call comes to, refused or not: it renders words, flushes, resets, or leaves the clocks alone. Assumes nothing.
use mathlib.Core.Bool.{Bool, true, false, cond}
use mathlib.Core.List.{List, [], ◌∷◌, ◌++◌, append-nil}
use mathlib.Core.Path.{◌≡◌, refl, sym, ap, ◌∙◌}
use Prim.Native.Nat.{ℕ, ◌%◌}
use borrow.Author.Tests.{ne_eqb}
use lib.ListN.{length}
use Rattle.refusals.specs.Numbers.{accepted, out_of_range}
use Rattle.laws.proofs.Tests.{by_cond, by-eq, by_le}
use Rattle.noise.specs.Course.{Agrees}
use Rattle.three_channels.specs.declared.Channels.{Channels}
use Rattle.registers.specs.declared.Voice.{Voice}
use Rattle.registers.specs.Registers.{apply_register}
use Rattle.queue.specs.declared.Write.{Write}
use Rattle.queue.specs.declared.Pushed.{Pushed}
use Rattle.queue.specs.Waiting.{waiting, push}
use Rattle.registers.specs.Writes.{applied_in_order}
use Rattle.queue_flush.specs.Applied.{register_writes}
use Rattle.queue.proofs.Ring.{waiting-pushed}
use Rattle.chip.specs.declared.Chip.{Chip}
use Rattle.clocking_block.specs.Block.{after_words}
use Rattle.chip.specs.Range.{chip_in}
use Rattle.chip.proofs.InRange.{InRange}
use Rattle.answers.specs.declared.Answered.{Answered}
use Rattle.answers.specs.declared.Blocked.{Blocked}
use Rattle.answers.specs.Answers.{answered, unless22}
use Rattle.chip_parts.specs.Parts.{on_voice, with_voice, with_selection, with_times, with_channels}
use Rattle.calls_making.specs.Making.{reset_of, reset_call}
use Rattle.calls_registers.specs.Stored.{dump_registers, load_registers, read_register, write_register}
use Rattle.calls_ports.specs.Ports.{bit1_clear, stamped, queued, read_port, write_port, write_port_immediate}
use Rattle.calls_cycles.specs.Cycles.{cpu_cycle, pending_write_count, flushed, set_cpu_cycle, sync_sample_cycle, flush_pending_writes}
use Rattle.calls_effects.specs.Effects.{set_timer_irq_state, triggered, trigger_envelope}
use Rattle.calls_channels.specs.ChannelCalls.{get_channel_outputs, is_channel_muted, for_channel, set_channel_mute, set_drum_sample_override}
use Rattle.calls_words.specs.Blocks.{block_no, blocked, sampled}
use Rattle.laws_promises.specs.History
use Rattle.laws_promises.specs.History.{Call, answers, entries, Ledger, accepts, restarts, renders, restart_in, enters, is_accepted, entered}
use Rattle.laws_promises.specs.Demand.{noise_of, FromZero}
use Rattle.laws_promises.proofs.Sounds.{neither, Leaves, apply-leaves, all-leave, in-order-leaves, irq-leaves, leaves-agrees, leaves-circles}

-- no word, and nothing applied from the queue
pub record Still (c d : Chip) (l m : Ledger) : Type 0 where
  pub clocks : d.core.clocks ≡ c.core.clocks
  pub variant : d.core.variant ≡ c.core.variant
  pub accumulator : d.core.accumulator ≡ c.core.accumulator
  pub new : List Write
  pub waits : waiting d.queue ≡ waiting c.queue ++ new
  pub words : m.words ≡ l.words
  pub accepted : m.accepted ≡ l.accepted ++ new
  pub applied : m.applied ≡ l.applied
  pub agrees : Agrees (noise_of c) → Agrees (noise_of d)
  pub circles : m.restarted ≡ false → (l.restarted ≡ false) × (FromZero c → FromZero d)

-- the next word's start stays, unless the call is a sync
abbrev StartStays : Call → Chip → Chip → Type 0
StartStays x c d = ((cycle : ℕ) → x ≡ History.sync-sample-cycle cycle → ⊥) → d.core.start ≡ c.core.start

pub data Deed (x : Call) (c d : Chip) (l m : Ledger) : Type 0 where
  rests : Still c d l m → StartStays x c d → Deed x c d l m
  flushes : x ≡ History.flush-pending-writes → d ≡ flushed c → m ≡ enters History.flush-pending-writes c l → Deed x c d l m
  begins : x ≡ History.reset → d ≡ reset_of c → m ≡ enters History.reset c l → Deed x c d l m
  plays : (n : ℕ) → d ≡ after_words n c → m ≡ renders (entries n c) l → Deed x c d l m

same-leaves : {v w : Voice} → w ≡ v → Leaves false v w
same-leaves e =
    record {
      register = ap (λ (u : Voice). u.generators.noise.register) e;
      output = ap (λ (u : Voice). u.generators.noise.output) e;
      position = λ _. ap (λ (u : Voice). u.generators.envelope.position) e;
    }

module _ (x : Call) (c : Chip) (l : Ledger) where
  -- what an answer comes to, where an accepted call makes the ledger m
  abbrev Comes : Ledger → Answered → Type 0
  Comes m a = Deed x c a.chip l (cond (is_accepted a.no) m l)

  nothing : Deed x c c l l
  nothing =
      rests (record {
        clocks = refl;
        variant = refl;
        accumulator = refl;
        new = [];
        waits = sym (append-nil (waiting c.queue));
        words = refl;
        accepted = sym (append-nil l.accepted);
        applied = refl;
        agrees = λ a. a;
        circles = λ e. (e, λ a. a);
      }) (λ _. refl)

  -- a call that only reads
  reads : (number : ℕ) → Comes l (answered number c)
  reads number = by_cond (Deed x c c l) (is_accepted number) l l (λ _. nothing) (λ _. nothing)

  -- 22 is checked before all else
  tested : (m : Ledger) (a : Answered) → Comes m a → Comes m (unless22 c a)
  tested m a k = by_cond (Comes m) (chip_in c) a (answered out_of_range c) (λ _. k) (λ _. nothing)

  -- a change that neither the queue nor the clocks see
  turned : (d : Chip) → d.core.clocks ≡ c.core.clocks → d.core.variant ≡ c.core.variant → d.core.accumulator ≡ c.core.accumulator → d.queue ≡ c.queue
      → StartStays x c d → {restart : Bool} → Leaves restart c.core.voice d.core.voice → Deed x c d l (restarts restart l)
  turned d e a f g start {restart} s =
      rests (record {
        clocks = e;
        variant = a;
        accumulator = f;
        new = [];
        waits = ap waiting g ∙ sym (append-nil (waiting c.queue));
        words = refl;
        accepted = sym (append-nil l.accepted);
        applied = refl;
        agrees = leaves-agrees s;
        circles = λ e. let (p, q) = neither restart l.restarted e in (q, leaves-circles s p);
      }) start

  voiced : {restart : Bool} {v : Voice} → Leaves restart c.core.voice v → Deed x c (with_voice v c) l (restarts restart l)
  voiced s = turned _ refl refl refl refl (λ _. refl) s

  -- a change of neither voice nor queue
  aside : (d : Chip) → d.core.clocks ≡ c.core.clocks → d.core.variant ≡ c.core.variant → d.core.accumulator ≡ c.core.accumulator → d.queue ≡ c.queue
      → d.core.voice ≡ c.core.voice → StartStays x c d → Deed x c d l l
  aside d e a f g v start = turned d e a f g start (same-leaves v)

  -- mutes and drums
  channelled : (channel : ℕ) (channels : Channels) → Comes l (for_channel channel channels c)
  channelled channel channels =
      tested l _ (by_le (Comes l) 3 channel (λ _. nothing) (λ _. aside (with_channels channels c) refl refl refl refl refl (λ _. refl)))

  -- a port write: it selects, or it queues what there is room for
  ported : (select : Bool) (value : ℕ) → InRange c
      → Comes (accepts (cond select [] (stamped value c ∷ [])) l)
      (cond select (answered accepted (with_selection (value % 16) c)) (queued c (push (stamped value c) c.queue)))
  unfolding push
  ported true value h =
      rests (record {
        clocks = refl;
        variant = refl;
        accumulator = refl;
        new = [];
        waits = sym (append-nil (waiting c.queue));
        words = refl;
        accepted = refl;
        applied = refl;
        agrees = λ a. a;
        circles = λ e. (e, λ a. a);
      }) (λ _. refl)
  ported false value h =
      let write = stamped value c in
      by_le (λ (p : Pushed). Comes (accepts (write ∷ []) l) (queued c p)) 256 c.queue.count (λ _. nothing)
      (λ room. rests (record {
        clocks = refl;
        variant = refl;
        accumulator = refl;
        new = write ∷ [];
        waits = waiting-pushed write c.queue h.queue room;
        words = refl;
        accepted = refl;
        applied = refl;
        agrees = λ a. a;
        circles = λ e. (e, λ a. a);
      }) (λ _. refl))

  immediate : (select : Bool) (value : ℕ)
      → Comes (restarts (restart_in (cond select [] (stamped value c ∷ []))) l)
      (cond select (answered accepted (with_selection (value % 16) c))
      (answered accepted (on_voice (apply_register c.core.selected value) c)))
  unfolding applied_in_order register_writes
  immediate true value = aside (with_selection (value % 16) c) refl refl refl refl refl (λ _. refl)
  immediate false value = voiced (all-leave (stamped value c ∷ []) c.core.voice)

  played : (n : ℕ) → Comes (renders (entries n c) l) (answered (blocked n c).answer.no (blocked n c).chip)
  unfolding blocked
  played n =
      let P : Blocked → Type 0 = λ b. Comes (renders (entries n c) l) (answered b.answer.no b.chip) in
      by_cond P (chip_in c) _ _
      (λ _. by-eq P (block_no n c) accepted (λ _. plays n refl refl) (λ e. rw (ne_eqb (block_no n c) accepted e) nothing))
      (λ _. nothing)

triggered-leaves : (v : Voice) → Leaves true v (triggered v)
triggered-leaves v = record { register = refl; output = refl; position = λ e. cc }

-- each call
did : (x : Call) (c : Chip) (l : Ledger) → InRange c → Comes x c l (enters x c l) (answers x c)
unfolding answers enters reset_call write_register load_registers write_port write_port_immediate set_cpu_cycle sync_sample_cycle flush_pending_writes set_timer_irq_state trigger_envelope set_channel_mute set_drum_sample_override sampled
did History.reset c l h = tested _ c l _ _ (begins refl refl refl)
did (History.write-register register value) c l h = tested _ c l _ _ (voiced _ c l (apply-leaves register value c.core.voice))
did (History.load-registers bytes) c l h = tested _ c l _ _ (voiced _ c l (in-order-leaves _ c.core.voice))
did (History.write-port port value) c l h = tested _ c l _ _ (ported _ c l (bit1_clear port) value h)
did (History.write-port-immediate port value) c l h = tested _ c l _ _ (immediate _ c l (bit1_clear port) value)
did (History.set-cpu-cycle cycle) c l h = tested _ c l _ _ (aside _ c l (with_times cycle c.core.start c) refl refl refl refl refl (λ _. refl))
did (History.sync-sample-cycle cycle) c l h = tested _ c l _ _ (aside _ c l (with_times cycle cycle c) refl refl refl refl refl (λ p. absurd (p cycle refl)))
did History.flush-pending-writes c l h = tested _ c l _ _ (flushes refl refl refl)
did (History.set-timer-irq-state on) c l h = tested _ c l _ _ (voiced _ c l (irq-leaves on c.core.voice))
did (History.inside-timer-irq inside) c l h = tested _ c l _ _ (voiced _ c l (irq-leaves inside c.core.voice))
did History.trigger-envelope c l h = tested _ c l _ _ (voiced _ c l (triggered-leaves c.core.voice))
did (History.set-channel-mute channel muted) c l h = channelled _ c l channel _
did (History.set-drum-sample-override channel drum) c l h = channelled _ c l channel _
did History.compute-next-sample c l h = played _ c l 1
did (History.block out) c l h = played _ c l (length out)
did (History.read-register register) c l h = reads _ c l (read_register register c).no
did History.dump-registers c l h = reads _ c l (dump_registers c).no
did (History.read-port port) c l h = reads _ c l (read_port port c).no
did History.cpu-cycle c l h = reads _ c l (cpu_cycle c).no
did History.pending-write-count c l h = reads _ c l (pending_write_count c).no
did (History.is-channel-muted channel) c l h = reads _ c l (is_channel_muted channel c).no
did History.get-channel-outputs c l h = reads _ c l (get_channel_outputs c).no

pub deed : (x : Call) (c : Chip) (l : Ledger) → InRange c → Deed x c (answers x c).chip l (entered x c l)
unfolding entered
deed x c l h = did x c l h
