-- A record in range never gives 22, and a call that answers another number than 0 leaves its chip. Assumes nothing.
use mathlib.Core.Bool.{true, false, cond}
use mathlib.Core.Path.{◌≡◌, refl, sym, ◌∙◌}
use Prim.Native.Nat.{ℕ}
use native.Mathlib.Omega.{arith}
use lib.ListN.{length}
use Rattle.refusals.specs.Numbers.{accepted, out_of_range}
use Rattle.laws.proofs.Tests.{by_cond, by-eq, by_le, by-lt}
use Rattle.three_channels.specs.declared.Channels.{Channels}
use Rattle.queue.specs.declared.Pushed.{Pushed}
use Rattle.queue.specs.Waiting.{push}
use Rattle.chip.specs.declared.Chip.{Chip}
use Rattle.chip.specs.Range.{chip_in}
use Rattle.answers.specs.declared.Answered.{Answered}
use Rattle.answers.specs.declared.Blocked.{Blocked}
use Rattle.answers.specs.declared.Byte.{Byte}
use Rattle.answers.specs.declared.Bytes.{Bytes}
use Rattle.answers.specs.declared.Count.{Count}
use Rattle.answers.specs.declared.Cycle.{Cycle}
use Rattle.answers.specs.declared.Flag.{Flag}
use Rattle.answers.specs.declared.Outputs.{Outputs}
use Rattle.answers.specs.Answers.{answered, unless22}
use Rattle.calls_making.specs.Making.{reset_call}
use Rattle.calls_registers.specs.Stored.{dump_registers, load_registers, read_register, write_register}
use Rattle.calls_ports.specs.Ports.{bit1_clear, queued, read_port, write_port, write_port_immediate}
use Rattle.calls_cycles.specs.Cycles.{cpu_cycle, flush_pending_writes, pending_write_count, set_cpu_cycle, sync_sample_cycle}
use Rattle.calls_effects.specs.Effects.{set_timer_irq_state, trigger_envelope}
use Rattle.calls_channels.specs.ChannelCalls.{for_channel, get_channel_outputs, is_channel_muted, set_channel_mute, set_drum_sample_override}
use Rattle.calls_words.specs.Blocks.{block_no, blocked, sampled}
use Rattle.block_limits.specs.Limits.{accept_block, block_number}
use Rattle.laws_promises.specs.History
use Rattle.laws_promises.specs.History.{Call, answers}

pub record Numbered (c : Chip) (a : Answered) : Type 0 where
  pub fine : chip_in c ≡ true → a.no ≡ out_of_range → ⊥
  pub stays : (a.no ≡ accepted → ⊥) → a.chip ≡ c

zero-fine : accepted ≡ out_of_range → ⊥
zero-fine e = omega arith

block-fine : (n start cycles : ℕ) → block_number n start cycles ≡ out_of_range → ⊥
unfolding block_number accept_block
block-fine n start cycles e = grind arith

module _ (c : Chip) where
  takes : (d : Chip) → Numbered c (answered accepted d)
  takes d = record { fine = λ _ e. omega arith; stays = λ f. absurd (f refl) }

  refuses : (number : ℕ) → (number ≡ out_of_range → ⊥) → Numbered c (answered number c)
  refuses number f = record { fine = λ _ e. f e; stays = λ _. refl }

  broken : chip_in c ≡ false → (number : ℕ) → Numbered c (answered number c)
  broken e number =
      record {
        fine = λ t _. let z : true ≡ false = sym t ∙ e in let o : ◌≡◌ {A = ℕ} 0 1 = cc in omega arith;
        stays = λ _. refl;
      }

  tested : (a : Answered) → Numbered c a → Numbered c (unless22 c a)
  tested a k = by_cond (Numbered c) (chip_in c) a (answered out_of_range c) (λ _. k) (λ e. broken e out_of_range)

  done : (d : Chip) → Numbered c (unless22 c (answered accepted d))
  done d = tested _ (takes d)

  channelled : (channel : ℕ) (channels : Channels) → Numbered c (for_channel channel channels c)
  channelled channel channels =
      tested _ (by_le (Numbered c) 3 channel (λ _. refuses 7 (λ e. omega arith)) (λ _. takes _))

  -- an answer of another kind, by its number
  seen : {A : Type 0} (number : A → ℕ) (a b : A) → (number a ≡ out_of_range → ⊥) → Numbered c (answered (number (cond (chip_in c) a b)) c)
  seen {A} number a b f =
      by_cond (λ (x : A). Numbered c (answered (number x) c)) (chip_in c) a b (λ _. refuses (number a) f) (λ e. broken e (number b))

  played : (n : ℕ) → Numbered c (answered (blocked n c).answer.no (blocked n c).chip)
  unfolding blocked
  played n =
      let P : Blocked → Type 0 = λ b. Numbered c (answered b.answer.no b.chip) in
      by_cond P (chip_in c) _ _
      (λ _. by-eq P (block_no n c) accepted (λ _. takes _) (λ _. refuses (block_no n c) (block-fine n c.core.start c.core.clocks.cycles)))
      (λ e. broken e out_of_range)

-- each call
pub numbered : (x : Call) (c : Chip) → Numbered c (answers x c)
unfolding answers reset_call write_register load_registers write_port write_port_immediate set_cpu_cycle sync_sample_cycle flush_pending_writes set_timer_irq_state trigger_envelope set_channel_mute set_drum_sample_override sampled read_register dump_registers read_port cpu_cycle pending_write_count is_channel_muted get_channel_outputs push
numbered History.reset c = done c _
numbered (History.write-register register value) c = done c _
numbered (History.load-registers bytes) c = done c _
numbered (History.write-port port value) c =
    tested c _
    (by_cond (Numbered c) (bit1_clear port) _ _ (λ _. takes c _)
    (λ _. by_le (λ (p : Pushed). Numbered c (queued c p)) 256 c.queue.count (λ _. refuses c 4 (λ e. omega arith)) (λ _. takes c _)))
numbered (History.write-port-immediate port value) c = tested c _ (by_cond (Numbered c) (bit1_clear port) _ _ (λ _. takes c _) (λ _. takes c _))
numbered (History.set-cpu-cycle cycle) c = done c _
numbered (History.sync-sample-cycle cycle) c = done c _
numbered History.flush-pending-writes c = done c _
numbered (History.set-timer-irq-state on) c = done c _
numbered (History.inside-timer-irq inside) c = done c _
numbered History.trigger-envelope c = done c _
numbered (History.set-channel-mute channel muted) c = channelled c channel _
numbered (History.set-drum-sample-override channel drum) c = channelled c channel _
numbered History.compute-next-sample c = played c 1
numbered (History.block out) c = played c (length out)
numbered (History.read-register register) c =
    seen c (λ (b : Byte). b.no) _ _ (by-lt (λ (b : Byte). b.no ≡ out_of_range → ⊥) register 14 (λ _. zero-fine) (λ _. zero-fine))
numbered History.dump-registers c = seen c (λ (b : Bytes). b.no) _ _ zero-fine
numbered (History.read-port port) c =
    seen c (λ (b : Byte). b.no) _ _
    (by_cond (λ (b : Byte). b.no ≡ out_of_range → ⊥) (bit1_clear port) _ _
    (λ _. by-lt (λ (b : Byte). b.no ≡ out_of_range → ⊥) c.core.selected 14 (λ _. zero-fine) (λ _. zero-fine)) (λ _. zero-fine))
numbered History.cpu-cycle c = seen c (λ (b : Cycle). b.no) _ _ zero-fine
numbered History.pending-write-count c = seen c (λ (b : Count). b.no) _ _ zero-fine
numbered (History.is-channel-muted channel) c = seen c (λ (b : Flag). b.no) _ _ zero-fine
numbered History.get-channel-outputs c = seen c (λ (b : Outputs). b.no) _ _ zero-fine
