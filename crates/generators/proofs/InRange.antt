-- Ranges stay: every call on the generators leaves what 01 asks of a handed-in record, and power-on makes it so. Assumes nothing.
use mathlib.Core.Bool.{Bool}
use Prim.Native.Nat.{ℕ, zero, suc, ◌≤◌}
use native.Mathlib.Omega.{arith}
use borrow.Author.Tests.{ne_eqb}
use Rattle.generators.specs.declared.Generators.{Generators}
use Rattle.generators.specs.Generators.{tick, tone_at, put_tone, tones_set, tones_released}
use Rattle.generators.specs.Reset.{blank, generators_reset, generators_new}
use Rattle.generators.specs.Range.{GeneratorsInRange}
use Rattle.power_on.specs.Seed.{power_on_edges}
use Rattle.tone.proofs.Flipping.{tone-masked-in, tone-tick-in, tone-released-in, tone-set-in}
use Rattle.noise.proofs.Hissing.{noise-reset-in, noise-tick-in}
use Rattle.envelope.proofs.Circling.{envelope-reset-in, envelope-tick-in}

pub generators-reset-in : (g : Generators) → g.noise.period ≤ 31 → GeneratorsInRange (generators_reset g)
unfolding generators_reset
generators-reset-in g k =
    record {
      a = tone-masked-in 0 power_on_edges;
      b = tone-masked-in 1 power_on_edges;
      c = tone-masked-in 2 power_on_edges;
      noise = noise-reset-in g.noise k;
      envelope = envelope-reset-in g.envelope;
    }

pub generators-new-in : GeneratorsInRange generators_new
generators-new-in = generators-reset-in blank (omega arith)

module _ {g : Generators} (h : GeneratorsInRange g) where
  pub tick-in : GeneratorsInRange (tick g)
  unfolding tick
  tick-in =
      record {
        a = tone-tick-in 0 h.a;
        b = tone-tick-in 1 h.b;
        c = tone-tick-in 2 h.c;
        noise = noise-tick-in h.noise;
        envelope = envelope-tick-in h.envelope;
      }

  pub tones-released-in : GeneratorsInRange (tones_released g)
  unfolding tones_released
  tones-released-in =
      record {
        a = tone-released-in 0 h.a;
        b = tone-released-in 1 h.b;
        c = tone-released-in 2 h.c;
        noise = h.noise;
        envelope = h.envelope;
      }

  pub tones-set-in : (channel period : ℕ) (irq : Bool) → period ≤ 4095 → GeneratorsInRange (tones_set channel period irq g)
  unfolding tones_set put_tone tone_at
  tones-set-in zero period irq k = record { a = tone-set-in 0 h.a period irq k; b = h.b; c = h.c; noise = h.noise; envelope = h.envelope }
  tones-set-in (suc zero) period irq k = record { a = h.a; b = tone-set-in 1 h.b period irq k; c = h.c; noise = h.noise; envelope = h.envelope }
  tones-set-in (suc (suc zero)) period irq k = record { a = h.a; b = h.b; c = tone-set-in 2 h.c period irq k; noise = h.noise; envelope = h.envelope }
  tones-set-in (suc (suc (suc channel))) period irq k =
      let n = suc (suc (suc channel)) in
      rw (ne_eqb n 0 (λ e. omega arith), ne_eqb n 1 (λ e. omega arith), ne_eqb n 2 (λ e. omega arith)) h
