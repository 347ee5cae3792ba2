-- `power_on::wrapping_mul` meets its contract: a product of two numbers of 32 bits fits in 64. Assumes nothing.
use Rattle.std.proofs.Common.{rules}
use Rattle.laws.proofs.Product.{product_lt}
use Rattle.power_on.proofs.wrapping_mul.Goals as goal

pub overflow_mul-product : goal.overflow_mul-product
overflow_mul-product c = record { fits = product_lt 32 (search rules) (search rules) }
