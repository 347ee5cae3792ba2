-- `clocking_generators::Turning::turn_tones` meets its contract: a step of each tone, A first. Assumes nothing.
use native.Mathlib.Omega.{arith}
use Rattle.clocking_generators.specs.Turning.{tones_turned}
use Rattle.clocking_generators.proofs.Held.{held-tones, step-lt}
use Rattle.clocking_generators.proofs.Turning.turn_tones.Goals as goal

pub returns : goal.returns
unfolding tones_turned
returns c = let a = c.tone_step-a.ensures in
    let b = c.tone_step-b.ensures in
    let d = c.tone_step-c.ensures in record { turned = rw (d.0, b.0, a.0); held = held-tones _ _ _ _ c.requires a.1 b.1 d.1 (rw d.0 (step-lt _ _ _ _ (omega arith) (rw b.0 (step-lt _ _ _ _ (omega arith) (rw a.0 (step-lt _ _ _ _ (omega arith) c.requires.edges)))))) }
