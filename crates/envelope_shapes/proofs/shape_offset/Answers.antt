-- `envelope_shapes::shape_offset` meets its contract: its table is the rule at each of sixteen shapes. Assumes nothing.
use mathlib.Core.Path.{◌∙◌, ap}
use Prim.Native.Nat.{ℕ, ◌*◌, ◌%◌, ◌<◌}
use native.Mathlib.Nat.{mul_comm}
use native.Mathlib.Omega.{arith}
use lib.ListN.{get_or}
use borrow.Author.Rules.{rules}
use Rattle.laws.proofs.Table.{tab, tab-at, under}
use Rattle.envelope_shapes.specs.Shapes.{row_of}
use Rattle.envelope_shapes.proofs.shape_offset.Goals as goal

row_lt : (shape : ℕ) → get_or (tab 16 0 row_of) (shape % 16) 0 < 10
row_lt shape = under 10 (tab 16 0 row_of) tt (shape % 16) (omega arith)

pub overflow_cast-result : goal.overflow_cast-result
overflow_cast-result c = omega (arith, row_lt c.args.shape)

pub overflow_mul-result : goal.overflow_mul-result
overflow_mul-result c = omega (arith, row_lt c.args.shape)

pub returns : goal.returns
returns c = ap (λ (row : ℕ). row * 128) (tab-at 16 row_of (c.args.shape % 16) (search rules)) ∙ mul_comm _ 128
