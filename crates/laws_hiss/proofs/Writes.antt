-- Register writes that store the period leave the noise alone. Assumes nothing.
use mathlib.Core.List.{List, [], ◌∷◌}
use mathlib.Core.Path.{◌≡◌, refl, sym, ◌∙◌}
use Prim.Native.Nat.{ℕ, ◌*◌, ◌/◌}
use native.Mathlib.Omega.{arith}
use lib.Seq.{get_or-set_same}
use Rattle.laws.specs.All.{All}
use Rattle.laws.proofs.Tests.{by-eq, by_le}
use Rattle.tone.specs.Tone.{tone_set}
use Rattle.generators.specs.Generators.{tone_at, tones_set}
use Rattle.registers.specs.declared.Voice.{Voice}
use Rattle.registers.specs.Registers.{byte_at, pair_at, tone_period_set, noise_period_set, gates_set, envelope_period_set, shape_set, voice_set, masked, stored, apply_register}
use Rattle.registers.specs.Writes.{RegisterWrite, applied_in_order}
use Rattle.registers.specs.Range.{VoiceInRange}
use Rattle.registers.proofs.InRange.{apply-in}
use Rattle.laws_promises.proofs.Sounds.{put_same}
use Rattle.laws_loops.proofs.Beside.{set_same}
use Rattle.laws_hiss.specs.Played.{StoresPeriod}

-- the noise of w is that of v
abbrev pub SameNoise : Voice → Voice → Type 0
SameNoise v w = w.generators.noise ≡ v.generators.noise

tone-leaves : (channel : ℕ) (v : Voice) → SameNoise v (tone_period_set channel v)
unfolding tone_period_set tones_set
tone-leaves channel v = (put_same channel (tone_set (pair_at (channel * 2) v) v.irq (tone_at channel v.generators)) v.generators).0

set-leaves : (r : ℕ) (v : Voice) → (r ≡ 6 → v.generators.noise.period ≡ byte_at 6 v) → SameNoise v (voice_set r v)
unfolding voice_set noise_period_set gates_set envelope_period_set shape_set
set-leaves r v six =
    by_le (SameNoise v) r 5 (λ _. tone-leaves (r / 2) v)
    (λ _. by-eq (SameNoise v) r 6 (λ e. set_same (byte_at 6 v) v.generators.noise (six e))
    (λ _. by-eq (SameNoise v) r 7 (λ _. refl)
    (λ _. by-eq (SameNoise v) r 11 (λ _. refl)
    (λ _. by-eq (SameNoise v) r 12 (λ _. refl)
    (λ _. by-eq (SameNoise v) r 13 (λ _. refl)
    (λ _. refl))))))

pub apply-leaves : (r x : ℕ) (v : Voice) → (r ≡ 6 → v.generators.noise.period ≡ byte_at 6 (stored r x v)) → SameNoise v (apply_register r x v)
unfolding apply_register
apply-leaves r x v six = by_le (SameNoise v) 14 r (λ _. refl) (λ _. set-leaves r (stored r x v) six)

module _ {p : ℕ} where
  stores_same : (r x : ℕ) (v : Voice) → VoiceInRange v → v.generators.noise.period ≡ p → StoresPeriod p (record { register = r; value = x })
      → r ≡ 6 → v.generators.noise.period ≡ byte_at 6 (stored r x v)
  stores_same r x v h is stores six =
      rw six (is ∙ sym (stores six) ∙ sym (get_or-set_same v.registers 6 (masked 6 x) 0 (omega (arith, h.bytes.long))))

  pub writes-leave : (ws : List RegisterWrite) (v : Voice) → VoiceInRange v → v.generators.noise.period ≡ p → All (StoresPeriod p) ws
      → SameNoise v (applied_in_order ws v)
  unfolding applied_in_order
  writes-leave [] v h is all = refl
  writes-leave (w ∷ ws) v h is (stores, all) =
      let e = apply-leaves w.register w.value v (stores_same w.register w.value v h is stores) in
      writes-leave ws (apply_register w.register w.value v) (apply-in w.register w.value h) (rw e is) all ∙ e
