-- The noise never repeats early. 02, request 11. Nothing here is proved; `register-loop : RegisterLoop` is, in `proofs/Registers.antt`,
-- `noise-loop : NoiseLoop` and `ready-again : ReadyAgain` in `proofs/Ticks.antt`, the two others in `proofs/Beside.antt`. Assumes nothing.
--
-- The idea of the proof: a step is linear over XOR, so k steps are known by what they make of the 17 single bits. Those 17 images are
-- squared and stepped 17 times, by computation, to 2^17 - 1 steps: each bit is back. 131,071 is prime, so a smaller return would bring a
-- return after the remainder, and so on down to one step, and one step fixes 0 alone.
use Rattle.std.specs.Prelude.{false, ◌≡◌, ℕ, zero, suc, ◌*◌, ◌^◌, ◌<◌}
use Rattle.noise.specs.declared.Noise.{Noise}
use Rattle.noise.specs.Noise.{noise_set, noise_tick, register_step}
use Rattle.noise.specs.Course.{Agrees}
use Rattle.noise.specs.Range.{NoiseInRange}

-- a move made n times
unfoldable pub times : {A : Type 0} → ℕ → (A → A) → A → A
times zero move x = x
times (suc n) move x = move (times n move x)

-- the register after n noise steps, and the noise after k ticks
abbrev pub steps : ℕ → ℕ → ℕ
steps n register = times n register_step register

abbrev pub ticks : ℕ → Noise → Noise
ticks k n = times k noise_tick n

-- n "return to it and no smaller positive number" does
pub record Back {A : Type 0} (run : ℕ → A → A) (n : ℕ) (x : A) : Type 0 where
  pub returns : run n x ≡ x
  pub no-sooner : (k : ℕ) → 0 < k → k < n → run k x ≡ x → ⊥

-- "from every nonzero 17-bit register, 131,071 noise steps return to it and no smaller positive number of steps does."
abbrev pub RegisterLoop : Type 0
RegisterLoop = (register : ℕ) → 0 < register → register < 2 ^ 17 → Back steps 131071 register

-- "with a noise period p from 1 to 31 held unchanged and a noise counter of 0 with the half-tick off": ticks alone run. The last three
-- fields are so on any chip that calls can reach.
pub record Ready (n : Noise) : Type 0 where
  pub period : 0 < n.period
  pub counter : n.counter ≡ 0
  pub half : n.half ≡ false
  pub some : 0 < n.register
  pub seventeen : n.register < 2 ^ 17
  pub agrees : Agrees n

-- "that is 131,071 × 2 × p ticks back to the whole noise state, and no smaller positive number."
abbrev pub NoiseLoop : Type 0
NoiseLoop = (n : Noise) → Ready n → Back ticks (131071 * 2 * n.period) n

-- Beside the request. Such a state comes every 2 × p ticks.
abbrev pub ReadyAgain : Type 0
ReadyAgain = (n : Noise) → Ready n → (j : ℕ) → Ready (ticks (2 * (j * n.period)) n)

-- A period of 0 runs as 1: its loop is that of 1.
abbrev pub ZeroLoop : Type 0
ZeroLoop = (n : Noise) → n.period ≡ 0 → Ready (noise_set 1 n) → Back ticks (131071 * 2 * 1) n

-- And why the output must agree with the register: this noise passes 22's test, and no ticks lead back to it.
abbrev pub disagreeing : Noise
disagreeing = record { counter = 0; period = 1; register = 1; output = 0xffff_ffff; half = false }

abbrev pub NeverBack : Type 0
NeverBack = NoiseInRange disagreeing × ((k : ℕ) → 0 < k → ticks k disagreeing ≡ disagreeing → ⊥)
