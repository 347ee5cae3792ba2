-- A new chip in a host's record. 01, "Numbers a call can answer". Assumes nothing.
use Rattle.answers.specs.declared.Answered.{Answered}
use Rattle.c_record.specs.Record.{record_of}
use Rattle.c_told.specs.declared.Told.{Told}

-- Refused clocks give a fresh default chip, so the record is written in either case.
abbrev pub new_record : Answered → Told
new_record a = record { chip = record_of a.chip; no = a.no }
