-- A write by a port is what its step says: the slot that is written, or none. Assumes nothing.
use mathlib.Core.Bool.{Bool, true, false, cond}
use mathlib.Core.Path.{◌≡◌, refl, sym}
use Prim.Native.Nat.{ℕ, ◌+◌, ◌%◌, ◌≤◌, ◌<◌}
use native.Mathlib.Omega.{arith}
use lib.Dec.{leb}
use Rattle.refusals.specs.Numbers.{accepted, out_of_range, queue_full}
use Rattle.queue.specs.Waiting.{push, pushed}
use Rattle.chip.specs.declared.Chip.{Chip}
use Rattle.chip.specs.Range.{chip_in}
use Rattle.chip_parts.specs.Parts.{with_selection}
use Rattle.answers.specs.declared.Answered.{Answered}
use Rattle.answers.specs.Answers.{answered}
use Rattle.steps_ports.specs.declared.PortQueued.{PortQueued}
use Rattle.steps_ports.specs.PortSteps.{no_slot, port_queued, queued_as}
use Rattle.calls_ports.specs.Ports.{bit1_clear, queued, stamped, write_port}

-- the step's reply and the call's answer, by the record's test, the port's bit, and whether 256 wait
abbrev step_by : Bool → Bool → Bool → ℕ → Chip → PortQueued
step_by ok clear full value c =
    let k = c.core in
    cond ok
    (cond clear (queued_as (value % 16) c.queue.count no_slot k.stamp k.selected value accepted)
    (cond full (queued_as k.selected c.queue.count no_slot k.stamp k.selected value queue_full)
    (queued_as k.selected (c.queue.count + 1) ((c.queue.head + c.queue.count) % 256) k.stamp k.selected value accepted)))
    (queued_as k.selected c.queue.count no_slot k.stamp k.selected value out_of_range)

abbrev answer_by : Bool → Bool → Bool → ℕ → Chip → Answered
answer_by ok clear full value c =
    cond ok
    (cond clear (answered accepted (with_selection (value % 16) c))
    (queued c (cond full (record { queue = c.queue; no = queue_full }) (record { queue = pushed (stamped value c) c.queue; no = accepted }))))
    (answered out_of_range c)

none-by : (ok clear full : Bool) (value : ℕ) (c : Chip) → let s = step_by ok clear full value c in 256 ≤ s.at → answered s.no (with_selection s.selected c) ≡ answer_by ok clear full value c
none-by true true full value c h = refl
none-by true false true value c h = refl
none-by true false false value c h = absurd (omega (arith, h))
none-by false clear full value c h = refl

tested-by : (ok clear full : Bool) (value : ℕ) (c : Chip) → (step_by ok clear full value c).at < 256 → ok ≡ true
tested-by true clear full value c h = refl
tested-by false clear full value c h = absurd (omega (arith, h))

slot-by : (ok clear full : Bool) (value : ℕ) (c : Chip) → let s = step_by ok clear full value c in s.at < 256
    → queued c (cond full (record { queue = c.queue; no = queue_full }) (record { queue = pushed (record { stamp = s.stamp; register = s.register; value = s.value }) c.queue; no = accepted })) ≡ answer_by ok clear full value c
slot-by true true full value c h = absurd (omega (arith, h))
slot-by true false true value c h = absurd (omega (arith, h))
slot-by true false false value c h = refl
slot-by false clear full value c h = absurd (omega (arith, h))

module _ (port value : ℕ) (c : Chip) where
  abbrev pub step_of : Bool → PortQueued
  step_of ok = port_queued ok c.core.selected c.core.stamp c.queue.head c.queue.count port value

  pub none-queued : {ok : Bool} {s : PortQueued} → ok ≡ chip_in c → s ≡ step_of ok → 256 ≤ s.at → answered s.no (with_selection s.selected c) ≡ write_port port value c
  unfolding write_port port_queued push
  none-queued {ok} {s} t e h = rw (e, t) (none-by (chip_in c) (bit1_clear port) (leb 256 c.queue.count) value c (rw (sym t) (rw (sym e) h)))

  pub slot-tested : {ok : Bool} {s : PortQueued} → s ≡ step_of ok → s.at < 256 → ok ≡ true
  unfolding port_queued
  slot-tested {ok} {s} e h = tested-by ok (bit1_clear port) (leb 256 c.queue.count) value c (rw (sym e) h)

  pub slot-queued : {ok : Bool} {s : PortQueued} → ok ≡ chip_in c → s ≡ step_of ok → s.at < 256
      → queued c (push (record { stamp = s.stamp; register = s.register; value = s.value }) c.queue) ≡ write_port port value c
  unfolding write_port port_queued push
  slot-queued {ok} {s} t e h = rw (e, t) (slot-by (chip_in c) (bit1_clear port) (leb 256 c.queue.count) value c (rw (sym t) (rw (sym e) h)))
