-- Every call leaves a chip in range, refused or not; a new one is in range. Assumes nothing.
use mathlib.Core.Bool.{Bool}
use mathlib.Core.List.{List}
use mathlib.Core.Path.{◌≡◌, refl}
use Prim.Native.Nat.{ℕ, zero, suc, ◌%◌, ◌≤◌}
use native.Mathlib.Omega.{arith}
use lib.Dec.{leb, eqb}
use Rattle.laws.proofs.Tests.{by_cond, by-eq}
use Rattle.envelope.proofs.Circling.{restarted-in}
use Rattle.generators.proofs.InRange.{tones-released-in}
use Rattle.channel.specs.declared.Drum.{Drum}
use Rattle.three_channels.specs.Channels.{set_mute, set_drum}
use Rattle.registers.specs.Range.{VoiceInRange}
use Rattle.registers.proofs.InRange.{apply-in, loaded-in}
use Rattle.all_registers.proofs.InRange.{reset-in, new_in}
use Rattle.queue.specs.Waiting.{waiting}
use Rattle.queue.proofs.Laws.{empty-kept, emptied-kept, push_kept}
use Rattle.queue_flush.proofs.Applying.{applied-in}
use Rattle.chip.specs.declared.Chip.{Chip}
use Rattle.clocking_word.specs.Word.{drained, ran_of, mixed_of, word_of}
use Rattle.clocking_block.specs.Block.{after_one, after_words}
use Rattle.clocking_word.proofs.Stepping.{Stepped, stepped}
use Rattle.clocks.specs.Clocks.{accept_clocks, clocks_no}
use Rattle.chip.specs.Clocks.{clocks_of}
use Rattle.chip.specs.Range.{chip_in}
use Rattle.clocks.proofs.Accepted.{accepts}
use Rattle.chip.proofs.InRange.{InRange, core-runs}
use Rattle.answers.specs.declared.Answered.{Answered}
use Rattle.answers.specs.declared.Blocked.{Blocked}
use Rattle.calls_making.specs.Making.{made_of, default_master, default_rate, default_variant, fresh, with_clocks, with_variant, reset_of, reset_call}
use Rattle.variants.specs.Variants.{making_no}
use Rattle.variants.proofs.Makings.{clocks-accepted, variant-accepted}
use Rattle.calls_making.proofs.Makings.{default-variant}
use Rattle.calls_registers.specs.Stored.{write_register, load_registers}
use Rattle.calls_ports.specs.Ports.{bit1_clear, stamped, write_port, write_port_immediate}
use Rattle.calls_cycles.specs.Cycles.{set_cpu_cycle, sync_sample_cycle, flush_pending_writes}
use Rattle.calls_effects.specs.Effects.{irq_set, set_timer_irq_state, trigger_envelope}
use Rattle.calls_channels.specs.ChannelCalls.{set_channel_mute, set_drum_sample_override}
use Rattle.calls_words.specs.Blocks.{block_no, blocked, sampled}
use Rattle.laws_in_range.proofs.Parts.{voice-kept, queue-kept, selection-kept, times-kept, channels-kept, chosen-kept}

-- a new chip
pub made_kept : (master rate variant : ℕ) → clocks_no master rate ≡ 0 → variant ≤ 2 → InRange (made_of (clocks_of master rate) variant)
unfolding made_of
made_kept master rate variant e v =
    record {
      clocks = e;
      internal = refl;
      cycles = refl;
      accumulator = (accepts master rate e).some;
      variant = v;
      voice = new_in;
      selected = omega arith;
      queue = empty-kept;
    }

pub fresh_kept : InRange fresh
unfolding fresh clocks_no accept_clocks
fresh_kept = made_kept default_master default_rate default_variant refl (omega arith)

pub with-variant-kept : (master rate variant : ℕ) → InRange (with_variant master rate variant).chip
unfolding with_variant
with-variant-kept master rate variant =
    by-eq (λ (x : Answered). InRange x.chip) (making_no master rate variant) 0
    (λ e. made_kept master rate variant (clocks-accepted master rate variant e) (variant-accepted master rate variant e)) (λ _. fresh_kept)

pub with-clocks-kept : (master rate : ℕ) → InRange (with_clocks master rate).chip
with-clocks-kept master rate = rw (default-variant master rate) (with-variant-kept master rate default_variant)

module _ {c : Chip} (h : InRange c) where
  pub reset-kept : InRange (reset_call c).chip
  unfolding reset_call reset_of
  reset-kept =
      chosen-kept (chip_in c) _ _
      (record {
        clocks = h.clocks;
        internal = h.internal;
        cycles = h.cycles;
        accumulator = (accepts _ _ h.clocks).some;
        variant = h.variant;
        voice = reset-in c.core.voice h.voice.generators.noise.period;
        selected = omega arith;
        queue = empty-kept;
      })
      h

  pub write-register-kept : (register value : ℕ) → InRange (write_register register value c).chip
  unfolding write_register
  write-register-kept register value = chosen-kept (chip_in c) _ _ (voice-kept h (apply-in register value h.voice)) h

  pub load-registers-kept : (bytes : List ℕ) → InRange (load_registers bytes c).chip
  unfolding load_registers
  load-registers-kept bytes = chosen-kept (chip_in c) _ _ (voice-kept h (loaded-in bytes h.voice)) h

  pub write-port-kept : (port value : ℕ) → InRange (write_port port value c).chip
  unfolding write_port
  write-port-kept port value =
      chosen-kept (chip_in c) _ _
      (chosen-kept (bit1_clear port) _ _ (selection-kept h (value % 16) (omega arith))
      (queue-kept h (push_kept (stamped value c) c.queue h.selected h.queue)))
      h

  pub write-port-immediate-kept : (port value : ℕ) → InRange (write_port_immediate port value c).chip
  unfolding write_port_immediate
  write-port-immediate-kept port value =
      chosen-kept (chip_in c) _ _
      (chosen-kept (bit1_clear port) _ _ (selection-kept h (value % 16) (omega arith))
      (voice-kept h (apply-in c.core.selected value h.voice)))
      h

  pub set-cpu-cycle-kept : (cycle : ℕ) → InRange (set_cpu_cycle cycle c).chip
  unfolding set_cpu_cycle
  set-cpu-cycle-kept cycle = chosen-kept (chip_in c) _ _ (times-kept h cycle c.core.start) h

  pub sync-sample-cycle-kept : (cycle : ℕ) → InRange (sync_sample_cycle cycle c).chip
  unfolding sync_sample_cycle
  sync-sample-cycle-kept cycle = chosen-kept (chip_in c) _ _ (times-kept h cycle cycle) h

  pub flush-kept : InRange (flush_pending_writes c).chip
  unfolding flush_pending_writes
  flush-kept =
      chosen-kept (chip_in c) _ _
      (queue-kept (voice-kept h (applied-in (waiting c.queue) h.voice)) (emptied-kept c.queue h.queue))
      h

  irq-in : (on : Bool) → VoiceInRange (irq_set on c.core.voice)
  unfolding irq_set
  irq-in on =
      let v = h.voice in
      by_cond VoiceInRange on _ _ (λ _. record { bytes = v.bytes; generators = v.generators; gates = v.gates })
      (λ _. record { bytes = v.bytes; generators = tones-released-in v.generators; gates = v.gates })

  pub set-timer-irq-state-kept : (on : Bool) → InRange (set_timer_irq_state on c).chip
  unfolding set_timer_irq_state
  set-timer-irq-state-kept on = chosen-kept (chip_in c) _ _ (voice-kept h (irq-in on)) h

  pub trigger-envelope-kept : InRange (trigger_envelope c).chip
  unfolding trigger_envelope
  trigger-envelope-kept =
      let v = h.voice in
      let g = v.generators in
      chosen-kept (chip_in c) _ _
      (voice-kept h (record {
        bytes = v.bytes;
        generators = record { a = g.a; b = g.b; c = g.c; noise = g.noise; envelope = restarted-in g.envelope };
        gates = v.gates;
      }))
      h

  pub set-channel-mute-kept : (channel : ℕ) (muted : Bool) → InRange (set_channel_mute channel muted c).chip
  unfolding set_channel_mute
  set-channel-mute-kept channel muted =
      chosen-kept (chip_in c) _ _ (chosen-kept (leb 3 channel) _ _ h (channels-kept h (set_mute channel muted c.core.channels))) h

  pub set-drum-kept : (channel : ℕ) (drum : Drum) → InRange (set_drum_sample_override channel drum c).chip
  unfolding set_drum_sample_override
  set-drum-kept channel drum =
      chosen-kept (chip_in c) _ _ (chosen-kept (leb 3 channel) _ _ h (channels-kept h (set_drum channel drum c.core.channels))) h

-- a word, and any number of them
word_kept : {c : Chip} → InRange c → InRange (after_one c)
unfolding word_of drained ran_of mixed_of
word_kept {c} h =
    let s : Stepped c.core (word_of c.core c.queue) = stepped c.core c.queue (core-runs h) h.queue in
    record {
      clocks = h.clocks;
      internal = h.internal;
      cycles = h.cycles;
      accumulator = s.core.run.under;
      variant = h.variant;
      voice = s.core.voice;
      selected = h.selected;
      queue = s.queue;
    }

pub words-kept : (n : ℕ) {c : Chip} → InRange c → InRange (after_words n c)
unfolding after_words
words-kept zero h = h
words-kept (suc n) h = words-kept n (word_kept h)

pub block-kept : (n : ℕ) {c : Chip} → InRange c → InRange (blocked n c).chip
unfolding blocked
block-kept n {c} h =
    by_cond (λ (x : Blocked). InRange x.chip) (chip_in c) _ _
    (λ _. by_cond (λ (x : Blocked). InRange x.chip) (eqb (block_no n c) 0) _ _ (λ _. words-kept n h) (λ _. h))
    (λ _. h)

pub sample-kept : {c : Chip} → InRange c → InRange (sampled c).chip
unfolding sampled
sample-kept h = block-kept 1 h
