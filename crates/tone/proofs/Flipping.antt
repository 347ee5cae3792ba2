-- A tone stays in range: its flips keep to the channel's five bits. Stated once over the channel. Assumes nothing.
use mathlib.Core.Bool.{Bool}
use mathlib.Core.Path.{◌≡◌, ap, ap₂, ◌∙◌}
use Prim.Native.Nat.{ℕ, ◌+◌, ◌*◌, ◌%◌, ◌^◌, ◌≤◌, ◌<◌}
use native.Mathlib.Nat.{add_comm, lt_of_le_of_lt, mul-mod_left}
use native.Mathlib.Omega.{arith}
use lib.Bits.{bit_and, bit_xor, and_mod, and_zero_r, and_le_r, xor_mod, xor_lt}
use lib.Dec.{lit<}
use lib.Pow.{shl_lt}
use Rattle.laws.proofs.Tests.{by_cond, by_le}
use Rattle.tables.specs.Masks.{five_bits}
use Rattle.tone.specs.declared.Stepped.{Stepped}
use Rattle.tone.specs.declared.Tone.{Tone}
use Rattle.tone.specs.Tone.{tone_reset, tone_set, tone_released, tone_step, tone_tick, with_step}
use Rattle.tone.specs.Range.{ToneInRange}

-- a channel's five bits lie at its place
five-low : (channel : ℕ) → five_bits channel % 2 ^ (5 * channel) ≡ 0
five-low channel = mul-mod_left 0x1f (2 ^ (5 * channel))

five-high : (channel : ℕ) → five_bits channel < 2 ^ (5 * channel + 5)
five-high channel = rw (add_comm (5 * channel) 5) (shl_lt 5 (5 * channel) (lit< tt))

pub tone-reset-in : (channel edges : ℕ) → edges % 2 ^ (5 * channel) ≡ 0 → edges < 2 ^ (5 * channel + 5) → ToneInRange channel (tone_reset edges)
tone-reset-in channel edges l h = record { period = omega arith; low = l; high = h }

-- whatever the edges, those within a channel's five bits are in range
pub tone-masked-in : (channel edges : ℕ) → ToneInRange channel (tone_reset (bit_and edges (five_bits channel)))
tone-masked-in channel edges =
    tone-reset-in channel (bit_and edges (five_bits channel))
    (and_mod edges (five_bits channel) (5 * channel) ∙ ap (bit_and (edges % 2 ^ (5 * channel))) (five-low channel) ∙ and_zero_r (edges % 2 ^ (5 * channel)))
    (lt_of_le_of_lt (and_le_r edges (five_bits channel)) (five-high channel))

module _ (channel : ℕ) {t : Tone} (h : ToneInRange channel t) where
  -- a tone with the same edges
  same_edges : (counter period : ℕ) (pending : Bool) → period ≤ 4095 → ToneInRange channel (record { counter = counter; period = period; edges = t.edges; pending = pending })
  same_edges counter period pending k = record { period = k; low = h.low; high = h.high }

  -- a flip of the five bits leaves the places below them clear, and stays below those above
  flipped-in : (counter : ℕ) (pending : Bool) → ToneInRange channel (record { counter = counter; period = t.period; edges = bit_xor t.edges (five_bits channel); pending = pending })
  flipped-in counter pending =
      record {
        period = h.period;
        low = xor_mod t.edges (five_bits channel) (5 * channel) ∙ ap₂ bit_xor h.low (five-low channel);
        high = xor_lt (5 * channel + 5) t.edges (five_bits channel) h.high (five-high channel);
      }

  pub tone-tick-in : ToneInRange channel (tone_tick (five_bits channel) t)
  unfolding tone_tick tone_step
  tone-tick-in =
      by_le (λ (s : Stepped). ToneInRange channel (with_step s t)) t.period (t.counter + 1)
      (λ e. flipped-in _ _) (λ e. same_edges _ _ _ h.period)

  pub tone-released-in : ToneInRange channel (tone_released (five_bits channel) t)
  unfolding tone_released
  tone-released-in = by_cond (ToneInRange channel) t.pending _ _ (λ e. flipped-in _ _) (λ e. h)

  pub tone-set-in : (period : ℕ) (irq : Bool) → period ≤ 4095 → ToneInRange channel (tone_set period irq t)
  unfolding tone_set
  tone-set-in period irq k =
      by_le (ToneInRange channel) period 1
      (λ e. by_cond (ToneInRange channel) irq _ _ (λ f. same_edges _ _ _ k) (λ f. same_edges _ _ _ k))
      (λ e. same_edges _ _ _ k)
