-- A history says of each call what the call's public promise says, so nothing is modelled twice; and every making begins one of the
-- demand's histories. Assumes nothing.
use mathlib.Core.Bool.{Bool}
use mathlib.Core.List.{List}
use mathlib.Core.Path.{◌≡◌, refl, sym, ap, ◌∙◌}
use Prim.Native.Nat.{ℕ}
use lib.ListN.{length}
use Rattle.refusals.specs.Numbers.{accepted}
use Rattle.laws.proofs.Tests.{by_cond, on-ne}
use Rattle.channel.specs.declared.Drum.{Drum}
use Rattle.chip.specs.declared.Chip.{Chip}
use Rattle.clocks.specs.Clocks.{accept_clocks, clocks_no}
use Rattle.answers.specs.declared.Answered.{Answered}
use Rattle.answers.specs.declared.Written.{Written}
use Rattle.answers.specs.Answers.{answered}
use Rattle.answers.proofs.Laws.{of_one, of_some, one-is, some_is}
use Rattle.calls_making.specs.Making.{fresh, with_clocks, with_variant, reset_call, default_master, default_rate, default_variant}
use Rattle.variants.specs.Variants.{accept_making, variant_in, making_no}
use Rattle.calls_making.proofs.Makings.{default-variant}
use Rattle.calls_registers.specs.Stored.{dump_registers, load_registers, loaded_registers, read_register, write_register, wrote_register}
use Rattle.calls_ports.specs.Ports.{bit1_clear, read_port, write_port, write_port_immediate, wrote_port_immediate}
use Rattle.calls_cycles.specs.Cycles.{cpu_cycle, flush_pending_writes, flushed_pending_writes, pending_write_count, set_cpu_cycle, sync_sample_cycle}
use Rattle.calls_effects.specs.Effects.{set_timer_irq_state, trigger_envelope}
use Rattle.calls_channels.specs.ChannelCalls.{get_channel_outputs, is_channel_muted, set_channel_mute, set_drum_sample_override}
use Rattle.calls_words.specs.Blocks.{blocked, sampled}
use Rattle.laws_promises.specs.History
use Rattle.laws_promises.specs.History.{answers}

-- the right sides are those of the promises
pub record Public (c : Chip) : Type 0 where
  pub reset : answers History.reset c ≡ reset_call c
  pub write-register : (register value : ℕ) → answers (History.write-register register value) c ≡ of_one (wrote_register register value c)
  pub load-registers : (bytes : List ℕ) → answers (History.load-registers bytes) c ≡ of_some (loaded_registers bytes c)
  pub write-port : (port value : ℕ) → answers (History.write-port port value) c ≡ write_port port value c
  pub write-port-immediate : (port value : ℕ) → answers (History.write-port-immediate port value) c ≡ of_one (wrote_port_immediate port value c)
  pub set-cpu-cycle : (cycle : ℕ) → answers (History.set-cpu-cycle cycle) c ≡ set_cpu_cycle cycle c
  pub sync-sample-cycle : (cycle : ℕ) → answers (History.sync-sample-cycle cycle) c ≡ sync_sample_cycle cycle c
  pub flush-pending-writes : answers History.flush-pending-writes c ≡ of_some (flushed_pending_writes c)
  pub set-timer-irq-state : (on : Bool) → answers (History.set-timer-irq-state on) c ≡ set_timer_irq_state on c
  pub inside-timer-irq : (inside : Bool) → answers (History.inside-timer-irq inside) c ≡ set_timer_irq_state inside c
  pub trigger-envelope : answers History.trigger-envelope c ≡ trigger_envelope c
  pub set-channel-mute : (channel : ℕ) (muted : Bool) → answers (History.set-channel-mute channel muted) c ≡ set_channel_mute channel muted c
  pub set-drum-sample-override : (channel : ℕ) (drum : Drum)
      → answers (History.set-drum-sample-override channel drum) c ≡ set_drum_sample_override channel drum c
  pub compute-next-sample : answers History.compute-next-sample c ≡ answered (sampled c).answer.no (sampled c).chip
  pub block : (out : List ℕ) → answers (History.block out) c ≡ answered (blocked (length out) c).answer.no (blocked (length out) c).chip
  pub read-register : (register : ℕ) → answers (History.read-register register) c ≡ answered (read_register register c).no c
  pub dump-registers : answers History.dump-registers c ≡ answered (dump_registers c).no c
  pub read-port : (port : ℕ) → answers (History.read-port port) c ≡ answered (read_port port c).no c
  pub cpu-cycle : answers History.cpu-cycle c ≡ answered (cpu_cycle c).no c
  pub pending-write-count : answers History.pending-write-count c ≡ answered (pending_write_count c).no c
  pub is-channel-muted : (channel : ℕ) → answers (History.is-channel-muted channel) c ≡ answered (is_channel_muted channel c).no c
  pub get-channel-outputs : answers History.get-channel-outputs c ≡ answered (get_channel_outputs c).no c

pub public : (c : Chip) → Public c
unfolding answers wrote_register loaded_registers wrote_port_immediate flushed_pending_writes
public c =
    record {
      reset = refl;
      write-register = λ register value. one-is _ _ (write_register register value c);
      load-registers = λ bytes. some_is _ c (load_registers bytes c);
      write-port = λ _ _. refl;
      write-port-immediate = λ port value. by_cond (λ (w : Written). write_port_immediate port value c ≡ of_one w) (bit1_clear port) _ _ (λ _. one-is _ _ _) (λ _. one-is _ _ _);
      set-cpu-cycle = λ _. refl;
      sync-sample-cycle = λ _. refl;
      flush-pending-writes = some_is _ c (flush_pending_writes c);
      set-timer-irq-state = λ _. refl;
      inside-timer-irq = λ _. refl;
      trigger-envelope = refl;
      set-channel-mute = λ _ _. refl;
      set-drum-sample-override = λ _ _. refl;
      compute-next-sample = refl;
      block = λ _. refl;
      read-register = λ _. refl;
      dump-registers = refl;
      read-port = λ _. refl;
      cpu-cycle = refl;
      pending-write-count = refl;
      is-channel-muted = λ _. refl;
      get-channel-outputs = refl;
    }

-- `new`, `with_clocks`, and `with_variant` where it refuses, begin histories that are among the demand's
pub new-begins : fresh ≡ (with_variant default_master default_rate default_variant).chip
unfolding fresh with_variant making_no accept_making clocks_no accept_clocks variant_in
new-begins = refl

pub clocks-begin : (master rate : ℕ) → with_clocks master rate ≡ with_variant master rate default_variant
clocks-begin = default-variant

refused-fresh : (master rate variant : ℕ) → (making_no master rate variant ≡ accepted → ⊥) → (with_variant master rate variant).chip ≡ fresh
unfolding with_variant
refused-fresh master rate variant f = ap (λ (a : Answered). a.chip) (sym (on-ne (making_no master rate variant) accepted _ _ _ f refl))

pub refused-begins : (master rate variant : ℕ) → (making_no master rate variant ≡ accepted → ⊥)
    → (with_variant master rate variant).chip ≡ (with_variant default_master default_rate default_variant).chip
refused-begins master rate variant f = refused-fresh master rate variant f ∙ new-begins
