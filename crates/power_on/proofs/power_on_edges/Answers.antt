-- `power_on::power_on_edges` meets its contract: a masked number is at most its mask. Assumes nothing.
use Rattle.std.proofs.Common.{ℕ, ◌*◌, ap, arith}
use lib.Bits.{bit_and, and_le_r}
use Rattle.power_on.specs.Seed.{power_on_edges}
use Rattle.power_on.proofs.power_on_edges.Goals as goal

pub overflow_mul-result : goal.overflow_mul-result
overflow_mul-result c = omega (arith, and_le_r c.random_seed.result 0x421)

pub returns : goal.returns
unfolding power_on_edges
returns c = ap (λ (s : ℕ). bit_and s 0x421 * 0x1f) c.random_seed.ensures
