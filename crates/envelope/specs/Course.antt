-- What the laws of the envelope's longer course are said in. 01, "One tick, one word". No contract cites this page. Assumes nothing.
use Rattle.std.specs.Prelude.{ℕ, zero, suc, ℤ}
use Rattle.envelope.specs.Envelope.{restart_position, next_position}

-- the position n steps after a restart
unfoldable pub walked : ℕ → ℤ
walked zero = restart_position
walked (suc n) = next_position (walked n)
