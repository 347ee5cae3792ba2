-- What a write by a port that may wait stores in a lent record is what the call tells: the drums, the selection, the count, and a slot of each
-- of the ring's arrays, or none.
use Rattle.std.proofs.Common.{◌≡◌, refl, ap, ℕ, ◌+◌, ◌%◌, Bool, true, false, cond}
use Rattle.std.specs.Prelude.{leb}
use Rattle.refusals.specs.Numbers.{accepted, out_of_range, queue_full}
use Rattle.queue.specs.declared.Queue.{Queue}
use Rattle.queue.specs.Waiting.{push, pushed}
use Rattle.queue_slot.proofs.Slots.{put_ring, ring-kept, ring-pushed}
use Rattle.chip.specs.Range.{chip_in}
use Rattle.chip_parts.specs.Parts.{with_selection}
use Rattle.answers.specs.declared.Answered.{Answered}
use Rattle.answers.specs.Answers.{answered}
use Rattle.steps_registers.specs.RegisterSteps.{bit1_clear}
use Rattle.steps_ports.specs.declared.PortQueued.{PortQueued}
use Rattle.steps_ports.specs.PortSteps.{no_slot, port_queued, queued_as}
use Rattle.calls_ports.specs.Ports.{queued, stamped, write_port}
use Rattle.c_record.specs.declared.Record.{Record}
use Rattle.c_record.specs.Record.{chip_of, core_of, record_core}
use Rattle.c_told.specs.Told.{lent_back, told}
use Rattle.c_calls.specs.Calls.{on_record}
use Rattle.c_steps.specs.declared.RecordStep.{RecordStep}
use Rattle.c_steps.specs.RecordSteps.{record_queued, settled}
use Rattle.c_interface.specs.Parts.{drums_in}

abbrev pub stored : Record → RecordStep PortQueued → Record
stored x r =
    let p = r.step in
    record {
      core = record x.core {
        a = record x.core.a { drum = r.drums.a };
        b = record x.core.b { drum = r.drums.b };
        c = record x.core.c { drum = r.drums.c };
        selected = p.selected;
      };
      queue = put_ring p.at p.count (record { stamp = p.stamp; register = p.register; value = p.value }) x.queue;
    }

abbrev settled_of : Record → PortQueued → RecordStep PortQueued
settled_of x p = record_queued (drums_in x) p

-- the step and the call, by the record's test, the port's bit, and whether 256 wait
abbrev unqueued : Record → ℕ → ℕ → ℕ → PortQueued
unqueued x selection v number = queued_as selection x.queue.count no_slot x.core.stamp x.core.selected v number

abbrev steps_port : Bool → Bool → Bool → Record → ℕ → PortQueued
steps_port ok clear full x v =
    cond ok
    (cond clear (unqueued x (v % 16) v accepted)
    (cond full (unqueued x x.core.selected v queue_full)
    (queued_as x.core.selected (x.queue.count + 1) ((x.queue.head + x.queue.count) % 256) x.core.stamp x.core.selected v accepted)))
    (unqueued x x.core.selected v out_of_range)

abbrev answers_port : Bool → Bool → Bool → Record → ℕ → Answered
answers_port ok clear full x v =
    cond ok
    (cond clear (answered accepted (with_selection (v % 16) (chip_of x)))
    (queued (chip_of x) (cond full (record { queue = x.queue; no = queue_full }) (record { queue = pushed (stamped v (chip_of x)) x.queue; no = accepted }))))
    (answered out_of_range (chip_of x))

-- a record with another ring
abbrev ringed : Record → Queue → Record
ringed x q = record { core = x.core; queue = q }

port-no : (ok clear full : Bool) (x : Record) (v : ℕ) → (steps_port ok clear full x v).no ≡ (answers_port ok clear full x v).no
port-no true true full x v = refl
port-no true false true x v = refl
port-no true false false x v = refl
port-no false clear full x v = refl

port-chip : (ok clear full : Bool) (x : Record) (v : ℕ) → stored x (settled_of x (steps_port ok clear full x v)) ≡ (told x (answers_port ok clear full x v)).chip
unfolding lent_back settled core_of record_core
port-chip true true full x v = ap (ringed (told x (answers_port true true full x v)).chip) (ring-kept (stamped v (chip_of x)) x.queue)
port-chip true false true x v = ap (ringed x) (ring-kept (stamped v (chip_of x)) x.queue)
port-chip true false false x v = ap (ringed (told x (answers_port true false false x v)).chip) (ring-pushed (stamped v (chip_of x)) x.queue)
port-chip false clear full x v = ap (ringed x) (ring-kept (stamped v (chip_of x)) x.queue)

abbrev pub queued_by : ℕ → ℕ → Record → RecordStep PortQueued
queued_by port value x =
    record_queued (drums_in x)
    (port_queued (chip_in (chip_of x)) x.core.selected x.core.stamp x.queue.head x.queue.count port value)

pub port-told : (port value : ℕ) (x : Record) → (queued_by port value x).step.no ≡ (on_record (write_port port value) x).no
unfolding write_port push port_queued core_of
port-told port value x = port-no (chip_in (chip_of x)) (bit1_clear port) (leb 256 x.queue.count) x value

pub port-left : (port value : ℕ) (x : Record) → stored x (queued_by port value x) ≡ (on_record (write_port port value) x).chip
unfolding write_port push port_queued core_of
port-left port value x = port-chip (chip_in (chip_of x)) (bit1_clear port) (leb 256 x.queue.count) x value
