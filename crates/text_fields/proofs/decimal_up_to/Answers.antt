-- `text_fields::decimal_up_to` meets its contract: what is left to read gives the whole (`Reading`). Assumes nothing.
use Rattle.std.proofs.Common.{arith}
use Rattle.laws.proofs.Tests.{tests}
use Rattle.text_fields.proofs.Called.{called}
use Rattle.text_fields.proofs.Digits.{reading-low, reading-high, reading-on, reading-all}
use Rattle.text_fields.proofs.decimal_up_to.Goals as goal

pub returns-in_default : goal.returns-in_default
returns-in_default c = search (tests, called, reading-low)

pub returns-in_default-2 : goal.returns-in_default-2
returns-in_default-2 c = search (tests, called, reading-high)

pub loop-d-preserved : goal.loop-d-preserved
loop-d-preserved c = reading-on c.loop-d.invariant c.loop-d-test.true (omega arith) (omega arith)

pub returns : goal.returns
returns c = search (tests, called, reading-all)
