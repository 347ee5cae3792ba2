-- `dump_clocks::clock_lines` meets its contract: what is read at the reader's places (`Places`). Assumes nothing.
use Rattle.std.proofs.Common.{arith}
use Rattle.std.proofs.lemmas.Grind.{common_steps}
use Rattle.dump_lines.proofs.Ranges.{rate-range}
use Rattle.dump_clocks.proofs.Places.{reads}
use Rattle.dump_clocks.proofs.clock_lines.Goals as goal

pub returns-in_err-master : goal.returns-in_err-master
returns-in_err-master c = rw (reads _ c.first_lines-lines.ensures c.if-text-gt-LONGEST_TEXT.false) (grind (arith, common_steps))

pub returns-in_err-rate : goal.returns-in_err-rate
returns-in_err-rate c = rw (reads _ c.first_lines-lines.ensures c.if-text-gt-LONGEST_TEXT.false) (grind (arith, common_steps))

pub overflow_cast-result : goal.overflow_cast-result
overflow_cast-result c = grind (arith, common_steps, rate-range)

pub returns : goal.returns
returns c = rw (reads _ c.first_lines-lines.ensures c.if-text-gt-LONGEST_TEXT.false) (grind (arith, common_steps))
