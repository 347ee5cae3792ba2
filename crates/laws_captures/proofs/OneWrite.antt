-- A write that the port takes is two calls, each accepted: they leave the chip that passing it leaves, and enter its data write. Assumes
-- nothing.
use mathlib.Core.Bool.{Bool, true, false, cond}
use mathlib.Core.List.{List, [], ◌∷◌, ◌++◌, append_assoc, append-nil}
use mathlib.Core.Path.{◌≡◌, refl, sym, ap, ◌∙◌}
use Prim.Native.Nat.{◌%◌}
use lib.Dec.{leb}
use Rattle.refusals.specs.Numbers.{accepted, queue_full}
use Rattle.laws.proofs.Tests.{by-same}
use Rattle.queue.specs.declared.Write.{Write}
use Rattle.chip.specs.declared.Chip.{Chip}
use Rattle.chip.proofs.InRange.{InRange, passes}
use Rattle.chip_parts.specs.Parts.{with_times}
use Rattle.answers.specs.Answers.{answered}
use Rattle.answers.specs.declared.Answered.{Answered}
use Rattle.calls_cycles.specs.Cycles.{set_cpu_cycle}
use Rattle.calls_ports.specs.Ports.{bit1_clear, write_port}
use Rattle.bus.specs.Passing.{pass_write}
use Rattle.bus.proofs.Laws.{refused-passes, taken-passes, selects, queues, passes-in-range}
use Rattle.bus_writes.specs.declared.BusWrite.{BusWrite}
use Rattle.laws_promises.specs.History.{set-cpu-cycle, write-port, answers, after, Ledger, accepts, enters, entered, ledger}
use Rattle.laws_histories.specs.Histories.{AllAccepted}
use Rattle.laws_captures.specs.Captures.{pass_calls, data_writes}

-- writes entered one behind the other
pub accepts-none : (l : Ledger) → accepts [] l ≡ l
accepts-none l = rw (append-nil l.accepted)

pub accepts-append : (a b : List Write) (l : Ledger) → accepts b (accepts a l) ≡ accepts (a ++ b) l
accepts-append a b l = rw (append_assoc l.accepted a b)

-- what is selected then
selected-by : (clear full : Bool) (c d e : Chip) → e.core.selected ≡ c.core.selected
    → (cond clear (answered accepted d) (cond full (answered queue_full c) (answered accepted e))).chip.core.selected
    ≡ cond clear d.core.selected c.core.selected
selected-by true full c d e p = refl
selected-by false true c d e p = refl
selected-by false false c d e p = p

module _ (w : BusWrite) (c : Chip) (h : InRange c) where
  pub pass-selects : (pass_write w c).chip.core.selected ≡ cond (bit1_clear w.port) (w.value % 16) c.core.selected
  pass-selects =
      rw (passes-in-range w c (passes h))
      (selected-by (bit1_clear w.port) (leb 256 c.queue.count) c (selects w c) (queues w c) refl)

  -- the chip whose stamp is set
  abbrev d : Chip
  d = with_times w.stamp c.core.start c

  abbrev put : Answered
  put = write_port w.port w.value d

  stamp-set : answers (set-cpu-cycle w.stamp) c ≡ answered accepted d
  unfolding answers set_cpu_cycle
  stamp-set = rw (passes h)

  set_is : answered accepted d ≡ set_cpu_cycle w.stamp c
  unfolding answers
  set_is = sym stamp-set

  stamp-enters : (l : Ledger) → entered (set-cpu-cycle w.stamp) c l ≡ l
  unfolding entered enters
  stamp-enters l = rw (ap (λ (a : Answered). a.no) stamp-set)

  module _ (e : (pass_write w c).no ≡ accepted) where
    -- taken, passing is what the port answers
    taken : put ≡ pass_write w c
    taken =
        by-same put.no accepted (λ z. taken-passes w c set_is refl z)
        (λ n. absurd (n (ap (λ (a : Answered). a.no) (refused-passes w c set_is refl refl n) ∙ e)))

    put-fine : (answers (write-port w.port w.value) d).no ≡ accepted
    unfolding answers
    put-fine = ap (λ (a : Answered). a.no) taken ∙ e

    put-leaves : (answers (write-port w.port w.value) d).chip ≡ (pass_write w c).chip
    unfolding answers
    put-leaves = ap (λ (a : Answered). a.chip) taken

    put-enters : (l : Ledger) → entered (write-port w.port w.value) d l ≡ accepts (data_writes c.core.selected (w ∷ [])) l
    unfolding entered enters
    put-enters l = rw put-fine

    pub pass-chip : after (pass_calls w) c ≡ (pass_write w c).chip
    unfolding after
    pass-chip = ap (λ (a : Answered). (answers (write-port w.port w.value) a.chip).chip) stamp-set ∙ put-leaves

    pub pass-each : AllAccepted (pass_calls w) c
    pass-each = (ap (λ (a : Answered). a.no) stamp-set, (rw stamp-set put-fine, tt))

    pub pass-enters : (l : Ledger) → ledger (pass_calls w) c l ≡ accepts (data_writes c.core.selected (w ∷ [])) l
    unfolding ledger
    pass-enters l =
        ap (λ (a : Answered). entered (write-port w.port w.value) a.chip (entered (set-cpu-cycle w.stamp) c l)) stamp-set
        ∙ ap (entered (write-port w.port w.value) d) (stamp-enters l)
        ∙ put-enters l
