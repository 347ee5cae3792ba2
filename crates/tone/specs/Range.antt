-- What a handed-in record must be, where its type does not settle it. 01, "What changes shape". Assumes nothing.
use Rattle.std.specs.Prelude.{◌≡◌, ℕ, ◌%◌, ◌*◌, ◌^◌, ◌+◌, ◌≤◌, ◌<◌}
use Rattle.tone.specs.declared.Tone.{Tone}

-- tone periods to 4,095; each channel's edges within its five bits
pub record ToneInRange (channel : ℕ) (t : Tone) : Type 0 where
  pub period : t.period ≤ 4095
  pub low : t.edges % 2 ^ (5 * channel) ≡ 0
  pub high : t.edges < 2 ^ (5 * channel + 5)
