-- Each call leaves of a chip in range, but for what is not shared, what it leaves of what the chip shares, and answers its number. Assumes nothing.
use mathlib.Core.Bool.{Bool, cond}
use mathlib.Core.Path.{◌≡◌, refl, ap}
use Prim.Native.Nat.{ℕ, zero, suc, ◌%◌}
use native.Mathlib.Omega.{arith}
use borrow.Author.Tests.{ne_eqb}
use lib.Dec.{eqb, leb}
use lib.ListN.{length}
use Rattle.refusals.specs.Numbers.{accepted}
use Rattle.channel.specs.declared.Drum.{Drum}
use Rattle.channel.specs.declared.Channel.{Channel}
use Rattle.three_channels.specs.Channels.{channel_at, put_channel, on_channel, set_mute, set_drum}
use Rattle.registers.specs.declared.Voice.{Voice}
use Rattle.registers.specs.Registers.{apply_register}
use Rattle.registers.specs.Writes.{loaded}
use Rattle.write_effects.specs.Effects.{changes_in, restarts_in}
use Rattle.queue.specs.Waiting.{push}
use Rattle.queue_flush.specs.Applied.{register_writes}
use Rattle.chip.specs.declared.Chip.{Chip}
use Rattle.chip.proofs.InRange.{InRange, passes}
use Rattle.chip_parts.specs.Parts.{on_voice, with_channels, with_selection, with_times}
use Rattle.answers.specs.declared.Answered.{Answered}
use Rattle.answers.specs.declared.Blocked.{Blocked}
use Rattle.answers.specs.declared.Byte.{Byte}
use Rattle.answers.specs.declared.Bytes.{Bytes}
use Rattle.answers.specs.declared.Count.{Count}
use Rattle.answers.specs.declared.Cycle.{Cycle}
use Rattle.answers.specs.declared.Flag.{Flag}
use Rattle.answers.specs.Answers.{answered, unless22, does}
use Rattle.answers.specs.Reports.{bytes_of}
use Rattle.calls_making.specs.Making.{reset_of, reset_call}
use Rattle.calls_registers.specs.Stored.{load_registers, write_register}
use Rattle.calls_ports.specs.Ports.{bit1_clear, queued, stamped, write_port, write_port_immediate}
use Rattle.calls_cycles.specs.Cycles.{flushed, set_cpu_cycle, sync_sample_cycle, flush_pending_writes}
use Rattle.calls_effects.specs.Effects.{irq_set, triggered, set_timer_irq_state, trigger_envelope}
use Rattle.calls_channels.specs.ChannelCalls.{for_channel, get_channel_outputs, set_channel_mute, set_drum_sample_override}
use Rattle.calls_words.specs.Blocks.{block_no, block_played, blocked, sampled}
use Rattle.laws_promises.specs.History
use Rattle.laws_promises.specs.History.{Call, answers}
use Rattle.laws_alike.specs.Claims.{shared}
use Rattle.laws_alike.proofs.Words.{applied-alike, words-alike, ticks-alike}
use Rattle.laws_alike.proofs.Reading.{shared-range, either, register-shared, registers-shared, port-shared, cycle-shared, waiting-shared, muted-shared}

-- the number of an answer, and what is shared of its chip
abbrev pub shared_answer : Answered → Answered
shared_answer a = answered a.no (shared a.chip)

-- the same of a block's
abbrev pub shared_block : Blocked → Blocked
shared_block b = record { chip = shared b.chip; answer = b.answer }

abbrev left_by : Blocked → Answered
left_by b = answered b.answer.no b.chip

-- mute and drum of channel n changed
abbrev changed : (Bool → Bool) → (Drum → Drum) → Channel → Channel
changed mute drum x = record { muted = mute x.muted; drum = drum x.drum; output = x.output; amplitude = x.amplitude }

change-shared : (mute : Bool → Bool) (drum : Drum → Drum) (n : ℕ) (c : Chip)
    → shared (with_channels (on_channel n (changed mute drum) c.core.channels) c)
    ≡ shared (with_channels (on_channel n (changed mute drum) (shared c).core.channels) c)
unfolding channel_at put_channel
change-shared mute drum zero c = refl
change-shared mute drum (suc zero) c = refl
change-shared mute drum (suc (suc zero)) c = refl
change-shared mute drum (suc (suc (suc n))) c =
    let k = suc (suc (suc n)) in
    rw (ne_eqb k 0 (λ e. omega arith), ne_eqb k 1 (λ e. omega arith), ne_eqb k 2 (λ e. omega arith))

module _ {c : Chip} (h : InRange c) where
  -- neither chip is refused with 22
  tested : (a b : Answered) → shared_answer a ≡ shared_answer b → shared_answer (unless22 c a) ≡ shared_answer (unless22 (shared c) b)
  tested a b e = rw (passes h, passes (shared-range h)) e

  -- a call that accepts every record in range, and one that changes only registers, generators, gates or IRQ flag
  does-shared : (step : Chip → Chip) → shared (step c) ≡ shared (step (shared c))
      → shared_answer (does step c) ≡ shared_answer (does step (shared c))
  does-shared step e = tested (answered accepted (step c)) (answered accepted (step (shared c))) (ap (answered accepted) e)

  voice-shared : (step : Voice → Voice) → shared_answer (does (on_voice step) c) ≡ shared_answer (does (on_voice step) (shared c))
  voice-shared step = does-shared (on_voice step) refl

  -- a call of two cases, whose test is the same for both chips
  either-shared : (t : Bool) (f g : Chip → Answered)
      → shared_answer (f c) ≡ shared_answer (f (shared c)) → shared_answer (g c) ≡ shared_answer (g (shared c))
      → shared_answer (unless22 c (cond t (f c) (g c))) ≡ shared_answer (unless22 (shared c) (cond t (f (shared c)) (g (shared c))))
  either-shared t f g p q =
      tested (cond t (f c) (g c)) (cond t (f (shared c)) (g (shared c))) (either shared_answer t (f c) (g c) (f (shared c)) (g (shared c)) p q)

  -- a block: the chip that it leaves, and all that it answers
  pub block-shared : (n : ℕ) → shared_block (blocked n c) ≡ shared_block (blocked n (shared c))
  unfolding blocked
  block-shared n =
      let writes = ap register_writes (applied-alike n c (shared c) refl) in
      let played : shared_block (block_played n c) ≡ shared_block (block_played n (shared c))
      = λ i. record {
        chip = words-alike n c (shared c) refl i;
        answer = record {
          no = accepted;
          words = n;
          ticks = ticks-alike n c (shared c) refl i;
          changed = changes_in (writes i) (bytes_of c);
          restarted = restarts_in (writes i);
        };
      }
      in
      rw (passes h, passes (shared-range h)) (either shared_block (eqb (block_no n c) accepted) _ _ _ _ played refl)

  -- a call for one channel
  channel-shared : (mute : Bool → Bool) (drum : Drum → Drum) (n : ℕ)
      → shared_answer (for_channel n (on_channel n (changed mute drum) c.core.channels) c)
      ≡ shared_answer (for_channel n (on_channel n (changed mute drum) (shared c).core.channels) (shared c))
  channel-shared mute drum n =
      tested _ _ (either shared_answer (leb 3 n) _ _ _ _ refl (ap (answered accepted) (change-shared mute drum n c)))

-- a port's selection
abbrev selects : ℕ → Chip → Answered
selects value c = answered accepted (with_selection (value % 16) c)

-- each call
pub answer-shared : (x : Call) {c : Chip} → InRange c → shared_answer (answers x c) ≡ shared_answer (answers x (shared c))
unfolding answers reset_call reset_of write_register load_registers write_port write_port_immediate set_cpu_cycle sync_sample_cycle flush_pending_writes set_timer_irq_state trigger_envelope set_channel_mute set_drum_sample_override set_mute set_drum sampled get_channel_outputs
answer-shared History.reset h = does-shared h reset_of refl
answer-shared (History.write-register register value) h = voice-shared h (apply_register register value)
answer-shared (History.load-registers bytes) h = voice-shared h (loaded bytes)
answer-shared (History.write-port port value) h =
    either-shared h (bit1_clear port) (selects value) (λ x. queued x (push (stamped value x) x.queue)) refl refl
answer-shared (History.write-port-immediate port value) h =
    either-shared h (bit1_clear port) (selects value) (λ x. answered accepted (on_voice (apply_register x.core.selected value) x)) refl refl
answer-shared (History.set-cpu-cycle cycle) h = does-shared h (λ x. with_times cycle x.core.start x) refl
answer-shared (History.sync-sample-cycle cycle) h = does-shared h (with_times cycle cycle) refl
answer-shared History.flush-pending-writes h = does-shared h flushed refl
answer-shared (History.set-timer-irq-state on) h = voice-shared h (irq_set on)
answer-shared (History.inside-timer-irq inside) h = voice-shared h (irq_set inside)
answer-shared History.trigger-envelope h = voice-shared h triggered
answer-shared (History.set-channel-mute channel muted) h = channel-shared h (λ _. muted) (λ drum. drum) channel
answer-shared (History.set-drum-sample-override channel drum) h = channel-shared h (λ muted. muted) (λ _. drum) channel
answer-shared History.compute-next-sample h = ap left_by (block-shared h 1)
answer-shared (History.block out) h = ap left_by (block-shared h (length out))
answer-shared (History.read-register register) {c} h = ap (λ (b : Byte). answered b.no (shared c)) (register-shared h register)
answer-shared History.dump-registers {c} h = ap (λ (b : Bytes). answered b.no (shared c)) (registers-shared h)
answer-shared (History.read-port port) {c} h = ap (λ (b : Byte). answered b.no (shared c)) (port-shared h port)
answer-shared History.cpu-cycle {c} h = ap (λ (b : Cycle). answered b.no (shared c)) (cycle-shared h)
answer-shared History.pending-write-count {c} h = ap (λ (b : Count). answered b.no (shared c)) (waiting-shared h)
answer-shared (History.is-channel-muted channel) {c} h = ap (λ (b : Flag). answered b.no (shared c)) (muted-shared h channel)
answer-shared History.get-channel-outputs h = rw (passes h, passes (shared-range h))
