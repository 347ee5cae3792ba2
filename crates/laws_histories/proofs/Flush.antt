-- What an accepted flush enters as applied is applied to the voice, and nothing waits. Assumes nothing.
use mathlib.Core.Bool.{Bool, true, false, cond}
use mathlib.Core.Path.{◌≡◌, refl}
use native.Mathlib.Omega.{arith}
use Rattle.refusals.specs.Numbers.{accepted, out_of_range}
use Rattle.queue.proofs.Laws.{waiting-emptied}
use Rattle.chip.specs.declared.Chip.{Chip}
use Rattle.chip.specs.Range.{chip_in}
use Rattle.answers.specs.Answers.{answered}
use Rattle.calls_cycles.specs.Cycles.{flushed, flush_pending_writes}
use Rattle.laws_promises.specs.History.{flush-pending-writes, answers, Ledger, enters, entered}
use Rattle.laws_histories.specs.Claims.{FlushApplies}

accepted-by : (test : Bool) (c d : Chip) → (cond test (answered accepted d) (answered out_of_range c)).no ≡ accepted → test ≡ true
accepted-by true c d e = refl
accepted-by false c d e = absurd (omega arith)

pub flush-applies : (c : Chip) (l : Ledger) → (answers flush-pending-writes c).no ≡ accepted → FlushApplies c l
unfolding answers enters entered flush_pending_writes
flush-applies c l e =
    let range : chip_in c ≡ true = accepted-by (chip_in c) c (flushed c) e in
    record { applied = rw range; voice = rw range; none = rw range (waiting-emptied c.queue) }
