-- An envelope with another period: its position is read back as it was stored. Assumes nothing.
use mathlib.Core.Path.{◌≡◌}
use Prim.Native.Nat.{ℕ, ◌<◌}
use lib.Signed.{mag}
use mir.Syntax.{w32}
use mir.Val.{to_z, of_z}
use Rattle.envelope.specs.declared.Envelope.{Envelope}
use Rattle.envelope.specs.Envelope.{envelope_set}
use Rattle.envelope.proofs.Places.{same}

pub period-placed : (e : Envelope) (period : ℕ) {r : ℕ} → mag e.position < 2147483648 → r ≡ period
    → record { counter = e.counter; period = r; position = to_z w32 (of_z w32 e.position); offset = e.offset } ≡ envelope_set period e
period-placed e period h k = rw (k, same e.position (record { sfits = h }))
