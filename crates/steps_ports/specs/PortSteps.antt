-- What a write by a port that may wait changes of a lent record. 01, "Registers and ports". Assumes nothing.
use Rattle.std.specs.Prelude.{Bool, cond, ℕ, ◌+◌, ◌%◌, leb}
use Rattle.refusals.specs.Numbers.{accepted, out_of_range, queue_full}
use Rattle.steps_registers.specs.RegisterSteps.{bit1_clear}
use Rattle.steps_ports.specs.declared.PortQueued.{PortQueued}

-- Places of the ring go to 255.
abbrev pub no_slot : ℕ
no_slot = 256

-- The selection, the count and the slot; what a slot is written with, "the write with the current stamp and selected number"; the number.
abbrev pub queued_as : ℕ → ℕ → ℕ → ℕ → ℕ → ℕ → ℕ → PortQueued
queued_as selected count at stamp register value number =
    record { selected = selected; count = count; at = at; stamp = stamp; register = register; value = value; no = number }

-- Port bit 1 clear selects (value modulo 16) at once; set, it queues the write, behind those that wait, and is refused while 256 do.
unfoldable pub port_queued : Bool → ℕ → ℕ → ℕ → ℕ → ℕ → ℕ → PortQueued
port_queued ok selected stamp head count port value =
    cond ok
    (cond (bit1_clear port) (queued_as (value % 16) count no_slot stamp selected value accepted)
    (cond (leb 256 count) (queued_as selected count no_slot stamp selected value queue_full)
    (queued_as selected (count + 1) ((head + count) % 256) stamp selected value accepted)))
    (queued_as selected count no_slot stamp selected value out_of_range)
