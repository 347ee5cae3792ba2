-- The test by parts is the test of the chip that the record holds, and what passes it is in range.
use Rattle.std.proofs.Common.{sym, ◌∙◌, rules}
use Rattle.chip.proofs.ByParts.{by_parts}
use Rattle.chip.proofs.InRange.{Laid, core-runs, passed}
use Rattle.c_record.specs.Record.{chip_of, core_of}
use Rattle.lent_record.proofs.in_range.Goals as goal

pub returns-clause-answer : goal.returns-clause-answer
unfolding core_of
returns-clause-answer c = c.parts_in.ensures ∙ by_parts (chip_of c.args.lent.now)

pub returns-clause-queue : goal.returns-clause-queue
unfolding core_of
returns-clause-queue c ok =
    let laid : Laid (chip_of c.args.lent.now) = record { registers = search rules; stamps = search rules; numbers = search rules; values = search rules } in
    (passed laid (sym (c.parts_in.ensures ∙ by_parts (chip_of c.args.lent.now)) ∙ ok)).queue

pub returns-clause-core : goal.returns-clause-core
unfolding core_of
returns-clause-core c ok =
    let laid : Laid (chip_of c.args.lent.now) = record { registers = search rules; stamps = search rules; numbers = search rules; values = search rules } in
    core-runs (passed laid (sym (c.parts_in.ensures ∙ by_parts (chip_of c.args.lent.now)) ∙ ok))
