-- `queue_effects::effects` meets its contract: the invariant and its steps are laws of `proofs/Counting.antt`. Assumes nothing.
use mathlib.Core.Path.{◌∙◌}
use Rattle.queue_effects.proofs.Counting.{counting-stored, counting-past, counting-end}
use Rattle.queue_effects.proofs.effects.Goals as goal
use Rattle.queue_effects.proofs.effects.Goals.{then-register-lt-REGISTERS, else-register-lt-REGISTERS}

pub loop-i-preserved : goal.loop-i-preserved
loop-i-preserved c =
    let i = c.loop-i.invariant in
    elim c.if-register-lt-REGISTERS.branch [
      | then-register-lt-REGISTERS w ↦ counting-stored i c.loop-i-test.true w.if-register-lt-REGISTERS.true w.masked_byte-byte.ensures (w.changed-is ∙ w.counted-changed.ensures) w.held-is c.counted-restarted.ensures
      | else-register-lt-REGISTERS w ↦ counting-past i c.loop-i-test.true w.if-register-lt-REGISTERS.false w.changed-is w.held-is c.counted-restarted.ensures
    ]

pub returns : goal.returns
returns c = search counting-end
