-- A reset voice is in range, and so is a new one. Assumes nothing.
use mathlib.Core.Path.{refl}
use Prim.Native.Nat.{ℕ, ◌≤◌, ◌<◌, zero-le}
use lib.Dec.{lit≤}
use lib.ListN.{get_or, get_or-replicate}
use Rattle.tables.specs.Masks.{register_mask}
use Rattle.generators.specs.declared.Generators.{Generators}
use Rattle.generators.specs.Range.{GeneratorsInRange}
use Rattle.generators.specs.Reset.{generators_reset}
use Rattle.generators.proofs.InRange.{generators-reset-in, generators-new-in}
use Rattle.registers.specs.declared.Voice.{Voice}
use Rattle.registers.specs.Range.{VoiceInRange}
use Rattle.registers.proofs.InRange.{apply-in}
use Rattle.all_registers.specs.Reset.{zeros, voice_reset, voice_new}

zeros-in : (g : Generators) → GeneratorsInRange g → VoiceInRange (zeros g)
zeros-in g h =
    record {
      bytes = record { long = refl; within = λ i k. zero-within i k };
      generators = h;
      gates = record { tone = lit≤ tt; noise = lit≤ tt };
    }
  where
    zero-within : (i : ℕ) → i < 14 → get_or (zeros g).registers i 0 ≤ register_mask i
    zero-within i k = rw (get_or-replicate {A = ℕ} 14 i 0 0 k) zero-le

-- a reset keeps the noise period, which was in range
pub reset-in : (v : Voice) → v.generators.noise.period ≤ 31 → VoiceInRange (voice_reset v)
unfolding voice_reset
reset-in v h = apply-in 7 0x3f (zeros-in (generators_reset v.generators) (generators-reset-in v.generators h))

pub new_in : VoiceInRange voice_new
new_in = reset-in _ generators-new-in.noise.period
