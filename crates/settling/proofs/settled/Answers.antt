-- `settling::settled` meets its contract: each part is what its own call gives. Assumes nothing.
use Rattle.settling.proofs.Parts.{settled-none, settled-made}
use Rattle.settling.proofs.settled.Goals as goal

pub returns-then-marks-eq0 : goal.returns-then-marks-eq0
returns-then-marks-eq0 c = settled-none _ _ _ c.if-marks-eq0.true

pub returns : goal.returns
returns c = settled-made c.args.bytes c.args.marks c.args.before
    c.pitch_after-a.ensures
    c.pitch_after-b.ensures
    c.pitch_after-c.ensures
    c.noise_after-noise.ensures
    c.gates_after-gates.ensures
    c.envelope_period_after-ticking.ensures
    c.shape_after-envelope.ensures
