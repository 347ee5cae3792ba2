-- `text_fields::decimal_up_to` meets its contract: what is left to read gives the whole (`Reading`). Assumes nothing.
use Rattle.text_fields.proofs.Digits.{Reading}
use Rattle.text_fields.proofs.decimal_up_to.Given as goal

abbrev pub invariant-loop-d : goal.invariant-loop-d
invariant-loop-d l = Reading l.most l.s l.n l.d-index
