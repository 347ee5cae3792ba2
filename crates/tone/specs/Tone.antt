-- The tone of one channel. 01, "Registers and ports" and "One tick, one word". `bits` are the channel's five edge bits. Assumes nothing.
use Rattle.std.specs.Prelude.{Bool, true, false, cond, ℕ, ◌+◌, leb}
use Rattle.std.specs.Int.Bits.{bit_xor}
use Rattle.tone.specs.declared.Stepped.{Stepped}
use Rattle.tone.specs.declared.Tone.{Tone}

-- Reset sets tone counters and periods to 0, clears pending flips; the edges are given.
abbrev pub tone_reset : ℕ → Tone
tone_reset edges = record { counter = 0; period = 0; edges = edges; pending = false }

abbrev pub period_set : ℕ → Tone → Tone
period_set period t = record { counter = t.counter; period = period; edges = t.edges; pending = t.pending }

abbrev pub marked : Tone → Tone
marked t = record { counter = t.counter; period = t.period; edges = t.edges; pending = true }

-- 0..5 set that channel's 12-bit period, and mark a pending flip if the period is now at most 1 and the IRQ flag is on.
unfoldable pub tone_set : ℕ → Bool → Tone → Tone
tone_set period irq t = cond (leb period 1) (cond irq (marked (period_set period t)) (period_set period t)) (period_set period t)

abbrev pub released : ℕ → Tone → Tone
released bits t = record { counter = 0; period = t.period; edges = bit_xor t.edges bits; pending = false }

-- A call setting the IRQ flag off flips each pending channel once, clears its counter, and unmarks it.
unfoldable pub tone_released : ℕ → Tone → Tone
tone_released bits t = cond t.pending (released bits t) t

-- Tone: counter plus 1; if it reaches the period, the five edge bits flip and the counter is 0.
unfoldable pub tone_step : ℕ → ℕ → ℕ → ℕ → Stepped
tone_step bits period counter edges =
    cond (leb period (counter + 1)) (record { counter = 0; edges = bit_xor edges bits }) (record { counter = counter + 1; edges = edges })

abbrev pub with_step : Stepped → Tone → Tone
with_step s t = record { counter = s.counter; period = t.period; edges = s.edges; pending = t.pending }

unfoldable pub tone_tick : ℕ → Tone → Tone
tone_tick bits t = with_step (tone_step bits t.period t.counter t.edges) t

-- A channel whose tone period is at most 1 is halved.
abbrev pub is_halved : Tone → Bool
is_halved t = leb t.period 1
