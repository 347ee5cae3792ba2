-- `text_fields::decimal` meets its contract: ten digits fit. Assumes nothing.
use Rattle.std.proofs.Common.{arith}
use Rattle.text_fields.proofs.Digits.{decimal-fits}
use Rattle.text_fields.proofs.decimal.Goals as goal

pub overflow_cast-result : goal.overflow_cast-result
overflow_cast-result c = decimal-fits _ c.args.s.now (omega arith) c.decimal_up_to.ensures c.in_ok-n.was
