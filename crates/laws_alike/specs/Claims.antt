-- Chips of two variants, claim by claim. 02, request 05: "All call rules are proved once over the variant." It decides which level a channel
-- uses, and with it the words' values and what each channel last gave; nothing else. Nothing here is proved; `all_Alike : AllAlike` is, in
-- `proofs/Alike.antt`. Assumes nothing.
use Rattle.std.specs.Prelude.{List, map, ◌≡◌, ℕ}
use Rattle.refusals.specs.Numbers.{accepted}
use Rattle.drums.specs.Drums.{float}
use Rattle.channel.specs.declared.Channel.{Channel}
use Rattle.channel.specs.Channel.{left}
use Rattle.chip.specs.declared.Chip.{Chip}
use Rattle.chip_parts.specs.Parts.{with_core}
use Rattle.calls_making.specs.Making.{default_variant, with_variant}
use Rattle.variants.specs.Variants.{making_no}
use Rattle.calls_registers.specs.Stored.{dump_registers, loaded_registers, read_register, wrote_register}
use Rattle.calls_ports.specs.Ports.{read_port, wrote_port_immediate}
use Rattle.calls_cycles.specs.Cycles.{cpu_cycle, flushed_pending_writes, pending_write_count}
use Rattle.calls_channels.specs.ChannelCalls.{is_channel_muted}
use Rattle.calls_words.specs.Blocks.{blocked}
use Rattle.laws_promises.specs.History.{Call, answers, after, Entry, Ledger, empty_ledger, ledger}

-- A channel's mute and drum, without its last output and last amplitude.
abbrev pub shared_channel : Channel → Channel
shared_channel x = left x (float 0) (float 0)

-- What chips share that differ in the variant: all but it and what the channels last gave.
abbrev pub shared : Chip → Chip
shared c =
    let k = c.core in
    with_core (record {
      clocks = k.clocks;
      voice = k.voice;
      channels = record { a = shared_channel k.channels.a; b = shared_channel k.channels.b; c = shared_channel k.channels.c };
      selected = k.selected;
      variant = default_variant;
      accumulator = k.accumulator;
      stamp = k.stamp;
      start = k.start;
    }) c

-- A word's end, the writes that it applies and its ticks, without its value.
abbrev pub shared_entry : Entry → Entry
shared_entry w = record { end = w.end; applied = w.applied; ticks = w.ticks; value = 0 }

abbrev pub shared_ledger : Ledger → Ledger
shared_ledger l = record { words = map shared_entry l.words; accepted = l.accepted; applied = l.applied; restarted = l.restarted }

-- What two chips answer to who asks, and what they report of register writes (02, request 03). (`get_channel_outputs` is not here: outputs
-- may differ.)
pub record AnswerAlike (c d : Chip) : Type 0 where
  pub number : (x : Call) → (answers x c).no ≡ (answers x d).no
  pub block : (n : ℕ) → (blocked n c).answer ≡ (blocked n d).answer
  pub wrote : (register value : ℕ) → (wrote_register register value c).answer ≡ (wrote_register register value d).answer
  pub loaded : (bytes : List ℕ) → (loaded_registers bytes c).answer ≡ (loaded_registers bytes d).answer
  pub wrote-port : (port value : ℕ) → (wrote_port_immediate port value c).answer ≡ (wrote_port_immediate port value d).answer
  pub flushed : (flushed_pending_writes c).answer ≡ (flushed_pending_writes d).answer
  pub register : (register : ℕ) → read_register register c ≡ read_register register d
  pub registers : dump_registers c ≡ dump_registers d
  pub port : (port : ℕ) → read_port port c ≡ read_port port d
  pub cycle : cpu_cycle c ≡ cpu_cycle d
  pub waiting : pending_write_count c ≡ pending_write_count d
  pub muted : (channel : ℕ) → is_channel_muted channel c ≡ is_channel_muted channel d

pub record Alike (c d : Chip) (l m : Ledger) : Type 0 where
  pub chip : shared c ≡ shared d
  pub ledger : shared_ledger l ≡ shared_ledger m
  pub answer : AnswerAlike c d

pub record AllAlike : Type 0 where
  -- Two chips made with the same clocks and any two accepted variants, after the same calls.
  pub alike : (master rate v w : ℕ) → making_no master rate v ≡ accepted → making_no master rate w ≡ accepted → (calls : List Call)
      → let c = (with_variant master rate v).chip in let d = (with_variant master rate w).chip in
      Alike (after calls c) (after calls d) (ledger calls c empty_ledger) (ledger calls d empty_ledger)
