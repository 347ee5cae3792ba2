-- The test by parts is the test of the chip, and what passes it is in range.
use Rattle.std.proofs.Common.{sym, ◌∙◌, rules}
use Rattle.chip.proofs.ByParts.{by_parts}
use Rattle.chip.proofs.InRange.{Laid, core-runs, passed}
use Rattle.lent_chip.proofs.in_range.Goals as goal

pub returns-clause-answer : goal.returns-clause-answer
returns-clause-answer c = c.parts_in.ensures ∙ by_parts c.args.chip.now

pub returns-clause-queue : goal.returns-clause-queue
returns-clause-queue c ok =
    let laid : Laid c.args.chip.now = record { registers = search rules; stamps = search rules; numbers = search rules; values = search rules } in
    (passed laid (sym (c.parts_in.ensures ∙ by_parts c.args.chip.now) ∙ ok)).queue

pub returns-clause-core : goal.returns-clause-core
returns-clause-core c ok =
    let laid : Laid c.args.chip.now = record { registers = search rules; stamps = search rules; numbers = search rules; values = search rules } in
    core-runs (passed laid (sym (c.parts_in.ensures ∙ by_parts c.args.chip.now) ∙ ok))
