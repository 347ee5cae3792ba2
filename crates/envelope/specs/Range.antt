-- What a handed-in record must be, where its type does not settle it. 01, "What changes shape". Assumes nothing.
use Rattle.std.specs.Prelude.{true, ◌≡◌, ℤ, pos}
use Rattle.std.specs.Int.Signed.{le_z}
use Rattle.envelope_shapes.specs.Shapes.{RealOffset}
use Rattle.envelope.specs.declared.Envelope.{Envelope}
use Rattle.envelope.specs.Envelope.{restart_position}

-- position -64..63
pub record PositionInRange (position : ℤ) : Type 0 where
  pub from : le_z restart_position position ≡ true
  pub to : le_z position (pos 63) ≡ true

-- and a real shape offset
pub record EnvelopeInRange (e : Envelope) : Type 0 where
  pub position : PositionInRange e.position
  pub offset : RealOffset e.offset
