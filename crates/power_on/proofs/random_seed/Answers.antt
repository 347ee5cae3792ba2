-- `power_on::random_seed` meets its contract: wrapping twice is wrapping the whole once. Assumes nothing.
use Rattle.std.proofs.Common.{◌≡◌, ℕ, ◌+◌, ◌*◌, ◌/◌, ◌%◌, ◌^◌}
use native.Mathlib.Nat.{mod-add-mod}
use Rattle.power_on.specs.Seed.{seeded}
use Rattle.power_on.proofs.random_seed.Goals as goal

once : (seed product next : ℕ) → product ≡ seed * 214013 % 2 ^ 32 → next ≡ (product + 2531011) % 2 ^ 32 → next / 65536 % 32768 ≡ seeded seed
unfolding seeded
once seed product next p q = rw (q, p, mod-add-mod (seed * 214013) (2 ^ 32) 2531011)

pub returns : goal.returns
returns c = once _ _ _ c.wrapping_mul.ensures c.wrapping_add_u32-next.ensures.value
