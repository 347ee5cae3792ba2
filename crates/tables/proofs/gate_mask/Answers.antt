-- `tables::gate_mask` meets its contract: its table is the rule at each of eight numbers. Assumes nothing.
use Prim.Native.Nat.{◌%◌}
use borrow.Author.Rules.{rules}
use Rattle.laws.proofs.Table.{tab-at}
use Rattle.tables.specs.Masks.{gate_mask}
use Rattle.tables.proofs.gate_mask.Goals as goal

pub returns : goal.returns
returns c = tab-at 8 gate_mask (c.args.bits % 8) (search rules)
