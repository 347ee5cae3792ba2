-- `queue_drain::store_due` meets its contract: the invariant and its steps are laws of `proofs/Storing.antt`. Assumes nothing.
use mathlib.Core.Path.{◌∙◌}
use Rattle.queue_drain.proofs.Storing.{storing-start, storing-on, storing-past, storing-late, storing-end}
use Rattle.queue_drain.proofs.store_due.Goals as goal
use Rattle.queue_drain.proofs.store_due.Goals.{then-register-lt-REGISTERS, else-register-lt-REGISTERS}

pub loop-i-init : goal.loop-i-init
loop-i-init c = search storing-start

pub returns-then-stamps-slot : goal.returns-then-stamps-slot
returns-then-stamps-slot c = search storing-late

pub loop-i-preserved : goal.loop-i-preserved
loop-i-preserved c =
    let s = c.loop-i.invariant in
    let due = c.if-stamps-slot.false in
    elim c.if-register-lt-REGISTERS.branch [
      | then-register-lt-REGISTERS w ↦ storing-on s c.loop-i-test.true due w.if-register-lt-REGISTERS.true w.masked_byte-byte.ensures (w.kept-is ∙ w.put-after.ensures) (w.marks-is ∙ w.mark-marks.ensures)
      | else-register-lt-REGISTERS w ↦ storing-past s c.loop-i-test.true due w.if-register-lt-REGISTERS.false w.kept-is w.marks-is
    ]

pub returns : goal.returns
returns c = search storing-end
