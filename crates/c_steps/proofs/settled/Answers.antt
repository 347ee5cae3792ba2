-- An accepted call leaves a drum that is off at level 0, which the code writes by its bits.
use Rattle.std.proofs.Common.{refl}
use lib.Ieee.{of_bits, of_int}
use Rattle.c_record.specs.Record.{drum_of, record_drum}
use Rattle.c_steps.specs.RecordSteps.{settled}
use Rattle.c_steps.proofs.settled.Goals as goal

pub returns : goal.returns
unfolding settled drum_of record_drum of_bits of_int
returns c = rw (c.if-no-ne-ACCEPTED.false, c.if-drum.false) refl
