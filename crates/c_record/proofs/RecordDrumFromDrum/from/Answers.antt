-- A drum that is off is told at level 0, which the code writes by its bits.
use Rattle.std.proofs.Common.{refl}
use lib.Ieee.{of_bits, of_int}
use Rattle.c_record.specs.Record.{record_drum}
use Rattle.c_record.proofs.RecordDrumFromDrum.from.Goals as goal

pub returns-in-Off : goal.returns-in-Off
unfolding record_drum of_bits of_int
returns-in-Off c = rw c.in-Off.is refl
