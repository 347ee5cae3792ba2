-- The noise of every chip that calls can reach never repeats early. 02, request 11. Nothing here is proved; `chip-loop : ChipLoop`,
-- `zero-chip-loop : ZeroChipLoop` and `reset-starts : ResetStarts` are, in `proofs/Reached.antt`. Assumes nothing.
use Rattle.std.specs.Prelude.{false, List, ◌≡◌, ℕ, ◌*◌, ◌≤◌}
use Rattle.refusals.specs.Numbers.{accepted}
use Rattle.noise.specs.declared.Noise.{Noise}
use Rattle.generators.specs.Generators.{tick}
use Rattle.chip.specs.declared.Chip.{Chip}
use Rattle.calls_making.specs.Making.{with_variant}
use Rattle.variants.specs.Variants.{making_no}
use Rattle.laws_promises.specs.History.{Call, answers, after, reset}
use Rattle.laws_promises.specs.Demand.{noise_of}
use Rattle.laws_loops.specs.Loop.{times, Back}

-- "On any chip that calls can reach": made with accepted clocks and variant, after any calls
abbrev pub OnReached : (Chip → Type 0) → Type 0
OnReached Claim =
    (master rate variant : ℕ) → making_no master rate variant ≡ accepted → (calls : List Call) → Claim (after calls (with_variant master rate variant).chip)

-- "with a noise period p .. and a noise counter of 0 with the half-tick off"
pub record Starts (p : ℕ) (n : Noise) : Type 0 where
  pub period : n.period ≡ p
  pub counter : n.counter ≡ 0
  pub half : n.half ≡ false

-- A reset leaves such a noise, of the period that it finds.
abbrev pub ResetStarts : Type 0
ResetStarts = OnReached (λ c. Starts (noise_of c).period (noise_of (answers reset c).chip))

-- a chip's noise after k ticks of all its generators
abbrev pub noise_after : ℕ → Chip → Noise
noise_after k c = (times k tick c.core.voice.generators).noise

-- n "ticks back to the whole noise state, and no smaller positive number"
abbrev pub NoiseBack : ℕ → Chip → Type 0
NoiseBack n c = Back (λ k _. noise_after k c) n (noise_of c)

-- "with a noise period p from 1 to 31 .., that is 131,071 × 2 × p ticks". (That p is at most 31 need not be asked: on such a chip it is.)
abbrev pub ChipLoop : Type 0
ChipLoop = OnReached (λ c. (p : ℕ) → 1 ≤ p → Starts p (noise_of c) → NoiseBack (131071 * 2 * p) c)

-- Beside the request: period 0, with which a chip is made, runs as 1.
abbrev pub ZeroChipLoop : Type 0
ZeroChipLoop = OnReached (λ c. Starts 0 (noise_of c) → NoiseBack (131071 * 2 * 1) c)
