-- Every reachable chip's noise is ready for the loop: demand 3 has its register and its output. Assumes nothing.
use mathlib.Core.List.{List, [], ◌∷◌}
use mathlib.Core.Path.{◌≡◌, refl, sym, ap, subst, ◌∙◌}
use Prim.Native.Nat.{ℕ, zero, suc, ◌*◌, ◌≤◌, ◌<◌}
use native.Mathlib.Omega.{arith}
use Rattle.noise.specs.Noise.{noise_set, noise_tick}
use Rattle.generators.specs.declared.Generators.{Generators}
use Rattle.generators.specs.Generators.{tick}
use Rattle.chip.specs.declared.Chip.{Chip}
use Rattle.chip.proofs.InRange.{InRange, passes}
use Rattle.calls_making.specs.Making.{with_variant}
use Rattle.laws_in_range.proofs.CallsInRange.{with-variant-kept}
use Rattle.laws_reset.proofs.Paragraph.{resets}
use Rattle.laws_promises.specs.History.{Call, Ledger, answers, after, reset}
use Rattle.laws_promises.specs.Demand.{Holds, noise_of}
use Rattle.laws_promises.proofs.Demand.{demand-3}
use Rattle.laws_promises.proofs.DemandKept.{in-range}
use Rattle.laws_loops.specs.Loop.{times, ticks, Back, Ready}
use Rattle.laws_loops.proofs.Ticks.{noise-back}
use Rattle.laws_loops.proofs.Beside.{set_same, zero-back}
use Rattle.laws_hiss.specs.Chips.{Starts, ResetStarts, NoiseBack, ChipLoop, ZeroChipLoop}

-- a tick of all generators is a tick of the noise
pub noise-ticks : (k : ℕ) (g : Generators) → (times k tick g).noise ≡ ticks k g.noise
unfolding times tick
noise-ticks zero g = refl
noise-ticks (suc k) g = ap noise_tick (noise-ticks k g)

of-chip : (n : ℕ) (c : Chip) → Back ticks n (noise_of c) → NoiseBack n c
of-chip n c b =
    let g = c.core.voice.generators in
    record { returns = noise-ticks n g ∙ b.returns; no-sooner = λ k pos under e. b.no-sooner k pos under (sym (noise-ticks k g) ∙ e) }

module _ {master rate variant : ℕ} {c : Chip} {l : Ledger} (h : Holds master rate variant c l) where
  -- a noise of the period q, else as the chip's
  ready : {p : ℕ} (q : ℕ) → 0 < q → Starts p (noise_of c) → Ready (noise_set q (noise_of c))
  ready q some s =
      record {
        period = some;
        counter = s.counter;
        half = s.half;
        some = h.kept.noise;
        seventeen = h.beyond.seventeen;
        agrees = h.beyond.agrees;
      }

  pub chip-back : (p : ℕ) → 1 ≤ p → Starts p (noise_of c) → NoiseBack (131071 * 2 * p) c
  chip-back p least s = of-chip (131071 * 2 * p) c (subst (Back ticks (131071 * 2 * p)) (set_same p (noise_of c) s.period) (noise-back (noise_set p (noise_of c)) (ready p least s)))

  zero-chip-back : Starts 0 (noise_of c) → NoiseBack (131071 * 2 * 1) c
  zero-chip-back s = of-chip (131071 * 2 * 1) c (zero-back (noise_of c) s.period (ready 1 (omega arith) s))

-- calls leave a chip in range
calls-in : (calls : List Call) (c : Chip) → InRange c → InRange (after calls c)
unfolding after
calls-in [] c h = h
calls-in (x ∷ calls) c h = calls-in calls (answers x c).chip (in-range x c h)

pub reached-in : (master rate variant : ℕ) (calls : List Call) → InRange (after calls (with_variant master rate variant).chip)
reached-in master rate variant calls = calls-in calls _ (with-variant-kept master rate variant)

reset-noise : (c : Chip) → InRange c → Starts (noise_of c).period (noise_of (answers reset c).chip)
unfolding answers
reset-noise c h =
    let q = resets.paragraph c in
    rw (resets.call c, passes h) (record { period = q.noise-period; counter = q.noise-counter; half = q.half-tick })

pub reset-starts : ResetStarts
reset-starts master rate variant ok calls = reset-noise _ (reached-in master rate variant calls)

pub chip-loop : ChipLoop
chip-loop master rate variant ok calls = chip-back (demand-3 master rate variant ok calls)

pub zero-chip-loop : ZeroChipLoop
zero-chip-loop master rate variant ok calls = zero-chip-back (demand-3 master rate variant ok calls)
