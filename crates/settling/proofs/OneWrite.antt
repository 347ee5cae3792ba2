-- One write, with the IRQ flag off: it sets what settling its register alone does. Assumes nothing.
use mathlib.Core.Bool.{Bool, false}
use mathlib.Core.List.{List}
use mathlib.Core.Path.{◌≡◌, refl}
use Prim.Native.Nat.{ℕ, zero, suc, ◌^◌, ◌<◌}
use native.Mathlib.Omega.{arith}
use Rattle.laws.proofs.Tests.{by_le, by-same}
use Rattle.tone.specs.declared.Tone.{Tone}
use Rattle.tone.specs.Tone.{tone_set, period_set}
use Rattle.generators.specs.Generators.{tone_at, put_tone, tones_set}
use Rattle.registers.specs.declared.Voice.{Voice}
use Rattle.registers.specs.Registers.{pair_at, tone_period_set, noise_period_set, gates_set, envelope_period_set, shape_set, voice_set}
use Rattle.settling.specs.declared.Settings.{Settings}
use Rattle.settling.specs.Settling.{settled_of, generators_with, with_settings}

-- a statement at each number below n, the last one first
data Each (P : ℕ → Type 0) : ℕ → Type 0 where
  none : Each P zero
  also : (n : ℕ) → P n → Each P n → Each P (suc n)

at : {P : ℕ → Type 0} {n : ℕ} → Each P n → (k : ℕ) → k < n → P k
at none k h = absurd (omega arith)
at (also n p rest) k h = by-same k n (λ same. rw same p) (λ another. at rest k (omega arith))

-- with the IRQ flag off no flip is marked
unmarked : (period : ℕ) (irq : Bool) (t : Tone) → irq ≡ false → tone_set period irq t ≡ period_set period t
unfolding tone_set
unmarked period irq t off = rw off (by_le (λ (x : Tone). x ≡ period_set period t) period 1 (λ h. refl) (λ h. refl))

module _ (bytes : List ℕ) (s : Settings) (v : Voice) (off : v.irq ≡ false) where
  abbrev Sets : ℕ → Type 0
  Sets register = with_settings bytes (settled_of bytes (2 ^ register) s) v ≡ voice_set register (with_settings bytes s v)

  pub write-settled : (register : ℕ) → register < 14 → Sets register
  unfolding settled_of generators_with with_settings voice_set tone_period_set noise_period_set gates_set envelope_period_set shape_set tones_set put_tone tone_at pair_at
  write-settled = at (also 13 refl (also 12 refl (also 11 refl (also 10 refl (also 9 refl (also 8 refl (also 7 refl (also 6 refl tones))))))))
    where
      tones : Each Sets 6
      tones = also 5 (rw unmarked) (also 4 (rw unmarked) (also 3 (rw unmarked) (also 2 (rw unmarked) (also 1 (rw unmarked) (also 0 (rw unmarked) none)))))
