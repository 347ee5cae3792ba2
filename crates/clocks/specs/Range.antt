-- What an inner call may ask of its caller: the accumulator below the rate, and clocks that are accepted. Assumes nothing.
use Rattle.std.specs.Prelude.{ℕ, ◌≤◌, ◌<◌}

pub record ClocksRun (accumulator rate internal : ℕ) : Type 0 where
  pub under : accumulator < rate
  pub slow : rate ≤ internal
  pub small : internal < 134217728
