-- The noise's and the envelope's parts of a tick, by the tests that the code makes. Assumes nothing.
use mathlib.Core.Bool.{true, false}
use mathlib.Core.Path.{◌≡◌, refl}
use Prim.Native.Nat.{ℕ, ◌+◌, ◌≤◌, ◌<◌, max}
use lib.IntN.{ℤ}
use Rattle.laws.proofs.Tests.{on-false, on-gt, on-le}
use Rattle.noise.specs.Noise.{register_step, output_by}
use Rattle.envelope.specs.Envelope.{next_position}
use Rattle.clocking_generators.specs.declared.Turning.{Turning}
use Rattle.clocking_generators.specs.Turning.{envelope_turned, noise_turned, new_envelope, new_noise}

module _ (t : Turning) {limit : ℕ} (off : t.half ≡ false) (is : limit ≡ max t.rest.noise.period 1) where
  pub counts : t.noise + 1 < limit → new_noise (t.noise + 1) t.register t.output true t ≡ noise_turned t
  unfolding noise_turned
  counts h = on-false t.half _ _ _ off (on-gt (max t.rest.noise.period 1) (t.noise + 1) _ _ _ (rw is at h) refl)

  pub steps : {register output : ℕ} → limit ≤ t.noise + 1 → register ≡ register_step t.register → output ≡ output_by t.register
      → new_noise 0 register output true t ≡ noise_turned t
  unfolding noise_turned
  steps h e f = on-false t.half _ _ _ off (on-le (max t.rest.noise.period 1) (t.noise + 1) _ _ _ (rw is at h) (cc))

pub moves : (t : Turning) {position : ℤ} → t.rest.envelope.period ≤ t.envelope + 1 → position ≡ next_position t.position
    → new_envelope 0 position t ≡ envelope_turned t
unfolding envelope_turned
moves t h e = on-le t.rest.envelope.period (t.envelope + 1) _ _ _ h (cc)
