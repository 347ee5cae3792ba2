-- `block_limits::accept_block` meets its contract: a span fits. Assumes nothing.
use native.Mathlib.Omega.{arith}
use Rattle.block_limits.proofs.Fits.{span_fits}
use Rattle.block_limits.proofs.accept_block.Goals as goal

pub overflow_mul-span : goal.overflow_mul-span
overflow_mul-span c = record { fits = span_fits _ 0 _ (omega arith) c.requires }
