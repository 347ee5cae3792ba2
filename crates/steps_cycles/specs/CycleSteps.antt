-- What the calls on stamps change of a lent record. 01, "Registers and ports". Assumes nothing.
use Rattle.std.specs.Prelude.{ℕ, Bool, cond}
use Rattle.refusals.specs.Numbers.{accepted, out_of_range}
use Rattle.answers.specs.declared.Count.{Count}
use Rattle.answers.specs.declared.Cycle.{Cycle}
use Rattle.steps_cycles.specs.declared.Stamped.{Stamped}
use Rattle.steps_cycles.specs.declared.Synced.{Synced}

abbrev pub stamped : ℕ → ℕ → Stamped
stamped stamp number = record { stamp = stamp; no = number }

-- Setting the CPU cycle sets the stamp of later writes; a record out of range keeps its own.
unfoldable pub stamp_set : Bool → ℕ → ℕ → Stamped
stamp_set ok stamp cycle = cond ok (stamped cycle accepted) (stamped stamp out_of_range)

abbrev pub synced : ℕ → ℕ → ℕ → Synced
synced stamp start number = record { stamp = stamp; start = start; no = number }

-- Syncing sets the stamp and the next word's start.
unfoldable pub both_set : Bool → ℕ → ℕ → ℕ → Synced
both_set ok stamp start cycle = cond ok (synced cycle cycle accepted) (synced stamp start out_of_range)

unfoldable pub cycle_said : Bool → ℕ → Cycle
cycle_said ok stamp = cond ok (record { no = accepted; cycle = stamp }) (record { no = out_of_range; cycle = 0 })

unfoldable pub count_said : Bool → ℕ → Count
count_said ok count = cond ok (record { no = accepted; count = count }) (record { no = out_of_range; count = 0 })
