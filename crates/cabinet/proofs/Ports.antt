-- A write by a port that may wait leaves what its step says: the selection, the count, and a slot of each of the ring's arrays, or none.
use Rattle.std.proofs.Common.{◌≡◌, ap, ℕ, ◌+◌, ◌%◌, Bool, true, false, cond}
use Rattle.std.specs.Prelude.{leb}
use Rattle.refusals.specs.Numbers.{accepted, out_of_range, queue_full}
use Rattle.queue.specs.declared.Queue.{Queue}
use Rattle.queue.specs.Waiting.{push, pushed}
use Rattle.queue_slot.proofs.Slots.{put_ring, ring-kept, ring-pushed}
use Rattle.chip.specs.declared.Chip.{Chip}
use Rattle.chip.specs.Range.{chip_in}
use Rattle.chip_parts.specs.Parts.{with_selection}
use Rattle.answers.specs.declared.Answered.{Answered}
use Rattle.answers.specs.Answers.{answered}
use Rattle.steps_registers.specs.RegisterSteps.{bit1_clear}
use Rattle.steps_ports.specs.declared.PortQueued.{PortQueued}
use Rattle.steps_ports.specs.PortSteps.{no_slot, port_queued, queued_as}
use Rattle.calls_ports.specs.Ports.{queued, stamped, write_port}

-- the chip with what the step says stored and written
abbrev pub stored : PortQueued → Chip → Chip
stored p c =
    record {
      core = (with_selection p.selected c).core;
      queue = put_ring p.at p.count (record { stamp = p.stamp; register = p.register; value = p.value }) c.queue;
    }

-- the step and the call, by the record's test, the port's bit, and whether 256 wait
abbrev unqueued : Chip → ℕ → ℕ → ℕ → PortQueued
unqueued c selection v number = queued_as selection c.queue.count no_slot c.core.stamp c.core.selected v number

abbrev steps_port : Bool → Bool → Bool → Chip → ℕ → PortQueued
steps_port ok clear full c v =
    cond ok
    (cond clear (unqueued c (v % 16) v accepted)
    (cond full (unqueued c c.core.selected v queue_full)
    (queued_as c.core.selected (c.queue.count + 1) ((c.queue.head + c.queue.count) % 256) c.core.stamp c.core.selected v accepted)))
    (unqueued c c.core.selected v out_of_range)

abbrev answers_port : Bool → Bool → Bool → Chip → ℕ → Answered
answers_port ok clear full c v =
    cond ok
    (cond clear (answered accepted (with_selection (v % 16) c))
    (queued c (cond full (record { queue = c.queue; no = queue_full }) (record { queue = pushed (stamped v c) c.queue; no = accepted }))))
    (answered out_of_range c)

-- a chip with another ring
abbrev ringed : Chip → Queue → Chip
ringed c q = record { core = c.core; queue = q }

port-same : (ok clear full : Bool) (c : Chip) (v : ℕ) → let s = steps_port ok clear full c v in
    answered s.no (stored s c) ≡ answers_port ok clear full c v
port-same true true full c v = ap (λ (q : Queue). answered accepted (ringed (with_selection (v % 16) c) q)) (ring-kept (stamped v c) c.queue)
port-same true false true c v = ap (λ (q : Queue). answered queue_full (ringed c q)) (ring-kept (stamped v c) c.queue)
port-same true false false c v = ap (λ (q : Queue). answered accepted (ringed c q)) (ring-pushed (stamped v c) c.queue)
port-same false clear full c v = ap (λ (q : Queue). answered out_of_range (ringed c q)) (ring-kept (stamped v c) c.queue)

pub port-set : (port value : ℕ) (c : Chip) → let s = port_queued (chip_in c) c.core.selected c.core.stamp c.queue.head c.queue.count port value in
    answered s.no (stored s c) ≡ write_port port value c
unfolding write_port push port_queued
port-set port value c = port-same (chip_in c) (bit1_clear port) (leb 256 c.queue.count) c value
