-- What a call leaves in a host's record, and what it answers. 01, "Numbers a call can answer". Assumes nothing.
use Rattle.std.specs.Prelude.{cond, ℕ, eqb}
use Rattle.answers.specs.declared.Answered.{Answered}
use Rattle.answers.specs.declared.Applied.{Applied}
use Rattle.answers.specs.declared.Blocked.{Blocked}
use Rattle.answers.specs.declared.Counts.{Counts}
use Rattle.answers.specs.declared.Sampled.{Sampled}
use Rattle.chip.specs.declared.Chip.{Chip}
use Rattle.c_record.specs.declared.Record.{Record}
use Rattle.c_record.specs.Record.{record_of}
use Rattle.c_told.specs.declared.Told.{Told}
use Rattle.answers.specs.declared.Played.{Played}
use Rattle.answers.specs.declared.Sample.{Sample}
use Rattle.answers.specs.declared.Written.{Written}
use Rattle.answers.specs.declared.Wrote.{Wrote}
use Rattle.refusals.specs.Numbers.{accepted}

-- A refused call changes nothing: the record is as it was lent.
unfoldable pub lent_back : Record → ℕ → Chip → Record
lent_back x number c = cond (eqb number accepted) (record_of c) x

-- the record after a call, and what the call answers
abbrev pub told : Record → Answered → Told
told x a = record { chip = lent_back x a.no a.chip; no = a.no }

pub record ToldWrite : Type 0 where
  pub chip : Record
  pub answer : Wrote

abbrev pub told_write : Record → Written → ToldWrite
told_write x a = record { chip = lent_back x a.answer.no a.chip; answer = a.answer }

pub record ToldCounts : Type 0 where
  pub chip : Record
  pub answer : Counts

abbrev pub told_counts : Record → Applied → ToldCounts
told_counts x a = record { chip = lent_back x a.answer.no a.chip; answer = a.answer }

pub record ToldSample : Type 0 where
  pub chip : Record
  pub answer : Sample

abbrev pub told_sample : Record → Sampled → ToldSample
told_sample x a = record { chip = lent_back x a.answer.no a.chip; answer = a.answer }

pub record ToldBlock : Type 0 where
  pub chip : Record
  pub answer : Played

abbrev pub told_block : Record → Blocked → ToldBlock
told_block x a = record { chip = lent_back x a.answer.no a.chip; answer = a.answer }
