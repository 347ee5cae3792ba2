-- A call on a host's record. 01, "One tick, one word" and "Numbers a call can answer". Assumes nothing.
use Rattle.answers.specs.declared.Answered.{Answered}
use Rattle.answers.specs.declared.Applied.{Applied}
use Rattle.answers.specs.declared.Written.{Written}
use Rattle.chip.specs.declared.Chip.{Chip}
use Rattle.c_record.specs.declared.Record.{Record}
use Rattle.c_record.specs.Record.{chip_of}
use Rattle.c_told.specs.declared.Told.{Told}
use Rattle.c_told.specs.Told.{ToldCounts, ToldWrite, told, told_counts, told_write}

-- a call on the chip that the record holds
abbrev pub on_record : (Chip → Answered) → Record → Told
on_record call x = told x (call (chip_of x))

-- one that applies a register write, and one that applies some
abbrev pub write_on : (Chip → Written) → Record → ToldWrite
write_on call x = told_write x (call (chip_of x))

abbrev pub apply_on : (Chip → Applied) → Record → ToldCounts
apply_on call x = told_counts x (call (chip_of x))
