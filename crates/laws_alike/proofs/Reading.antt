-- What is read of a chip in range is read of what it shares: registers, ports, stamp, waiting count and mutes; and what its register
-- writes report. Assumes nothing.
use mathlib.Core.Bool.{Bool, true, false, cond}
use mathlib.Core.List.{List}
use mathlib.Core.Path.{◌≡◌, refl}
use Prim.Native.Nat.{ℕ}
use native.Mathlib.Omega.{arith}
use lib.Dec.{eqb}
use Rattle.laws.proofs.Tests.{by_cond}
use Rattle.refusals.specs.Numbers.{accepted}
use Rattle.channel.specs.declared.Channel.{Channel}
use Rattle.three_channels.specs.Channels.{channel_at, is_muted}
use Rattle.chip.specs.declared.Chip.{Chip}
use Rattle.chip.proofs.InRange.{InRange, passes}
use Rattle.answers.specs.declared.Answered.{Answered}
use Rattle.answers.specs.declared.Written.{Written}
use Rattle.calls_registers.specs.Stored.{dump_registers, load_registers, loaded_registers, read_register, write_register, wrote_register}
use Rattle.calls_ports.specs.Ports.{bit1_clear, read_port, write_port_immediate, wrote_port_immediate}
use Rattle.calls_cycles.specs.Cycles.{cpu_cycle, flush_pending_writes, flushed_pending_writes, pending_write_count}
use Rattle.calls_channels.specs.ChannelCalls.{is_channel_muted}
use Rattle.laws_alike.specs.Claims.{shared}

-- what is shared of a chip in range is in range
pub shared-range : {c : Chip} → InRange c → InRange (shared c)
shared-range h =
    record {
      clocks = h.clocks;
      internal = h.internal;
      cycles = h.cycles;
      accumulator = h.accumulator;
      variant = omega arith;
      voice = h.voice;
      selected = h.selected;
      queue = h.queue;
    }

-- one test, and alike on either side
pub either : {A B : Type 0} (f : A → B) (t : Bool) (a b x y : A) → f a ≡ f x → f b ≡ f y → f (cond t a b) ≡ f (cond t x y)
either f true a b x y p q = p
either f false a b x y p q = q

port-accepts : (port value : ℕ) {c : Chip} → InRange c → (write_port_immediate port value c).no ≡ accepted
unfolding write_port_immediate
port-accepts port value h = rw (passes h) (by_cond (λ (a : Answered). a.no ≡ accepted) (bit1_clear port) _ _ (λ _. refl) (λ _. refl))

module _ {c : Chip} (h : InRange c) where
  pub register-shared : (register : ℕ) → read_register register c ≡ read_register register (shared c)
  unfolding read_register
  register-shared register = rw (passes h, passes (shared-range h))

  pub registers-shared : dump_registers c ≡ dump_registers (shared c)
  unfolding dump_registers
  registers-shared = rw (passes h, passes (shared-range h))

  pub port-shared : (port : ℕ) → read_port port c ≡ read_port port (shared c)
  unfolding read_port
  port-shared port = rw (passes h, passes (shared-range h))

  pub cycle-shared : cpu_cycle c ≡ cpu_cycle (shared c)
  unfolding cpu_cycle
  cycle-shared = rw (passes h, passes (shared-range h))

  pub waiting-shared : pending_write_count c ≡ pending_write_count (shared c)
  unfolding pending_write_count
  waiting-shared = rw (passes h, passes (shared-range h))

  -- what register writes report
  pub wrote-shared : (register value : ℕ) → (wrote_register register value c).answer ≡ (wrote_register register value (shared c)).answer
  unfolding wrote_register write_register
  wrote-shared register value = rw (passes h, passes (shared-range h))

  pub loaded-shared : (bytes : List ℕ) → (loaded_registers bytes c).answer ≡ (loaded_registers bytes (shared c)).answer
  unfolding loaded_registers load_registers
  loaded-shared bytes = rw (passes h, passes (shared-range h))

  pub wrote-port-shared : (port value : ℕ) → (wrote_port_immediate port value c).answer ≡ (wrote_port_immediate port value (shared c)).answer
  unfolding wrote_port_immediate
  wrote-port-shared port value =
      rw (port-accepts port value h, port-accepts port value (shared-range h)) (either (λ (w : Written). w.answer) (bit1_clear port) _ _ _ _ refl refl)

  pub flushed-shared : (flushed_pending_writes c).answer ≡ (flushed_pending_writes (shared c)).answer
  unfolding flushed_pending_writes flush_pending_writes
  flushed-shared = rw (passes h, passes (shared-range h))

  -- the mute of channel n
  at-shared : (n : ℕ) → (channel_at n c.core.channels).muted ≡ (channel_at n (shared c).core.channels).muted
  unfolding channel_at
  at-shared n =
      let s = c.core.channels in
      let t = (shared c).core.channels in
      either (λ (x : Channel). x.muted) (eqb n 0) s.a _ t.a _ refl
      (either (λ (x : Channel). x.muted) (eqb n 1) s.b s.c t.b t.c refl refl)

  pub muted-shared : (channel : ℕ) → is_channel_muted channel c ≡ is_channel_muted channel (shared c)
  unfolding is_channel_muted is_muted
  muted-shared channel = rw (passes h, passes (shared-range h), at-shared channel)
