-- What a frame does to the envelope. 02, request 02. Nothing here is proved; `shape : Shape` is, in `proofs/Shape.antt`. Assumes nothing.
use Rattle.std.specs.Prelude.{List, ◌≡◌, ℕ, ◌%◌}
use Rattle.text_fields.specs.Fields.{hex_byte}
use Rattle.envelope_shapes.specs.Shapes.{offset_of}
use Rattle.envelope.specs.declared.Envelope.{Envelope}
use Rattle.envelope.specs.Envelope.{restart_position}
use Rattle.registers.specs.declared.Voice.{Voice}
use Rattle.registers.specs.Registers.{byte_at, pair_at}
use Rattle.registers.specs.Writes.{applied_in_order}
use Rattle.dump_writes.specs.Writes.{frame_writes}

abbrev pub envelope_of : Voice → Envelope
envelope_of v = v.generators.envelope

-- The voice after a frame's writes.
abbrev pub after_frame : List ℕ → Voice → Voice
after_frame value v = applied_in_order (frame_writes value) v

-- The tune did not touch the shape: R13's stored byte, the envelope's position, counter and shape stay.
pub record Untouched (before after : Voice) : Type 0 where
  pub stored : byte_at 13 after ≡ byte_at 13 before
  pub position : (envelope_of after).position ≡ (envelope_of before).position
  pub counter : (envelope_of after).counter ≡ (envelope_of before).counter
  pub shape : (envelope_of after).offset ≡ (envelope_of before).offset

-- The envelope starts anew with the stored byte's shape, also where that is the byte stored before.
pub record Restarted (after : Voice) : Type 0 where
  pub position : (envelope_of after).position ≡ restart_position
  pub counter : (envelope_of after).counter ≡ 0
  pub shape : (envelope_of after).offset ≡ offset_of (byte_at 13 after % 16)

-- Every frame, on every voice.
pub record Shape : Type 0 where
  pub of-ff : (value : List ℕ) (v : Voice) → hex_byte value 13 ≡ 255 → Untouched v (after_frame value v)
  pub of_other : (value : List ℕ) (v : Voice) → (hex_byte value 13 ≡ 255 → ⊥) → Restarted (after_frame value v)
  -- R11 and R12 set the period in either.
  pub period : (value : List ℕ) (v : Voice) → (envelope_of (after_frame value v)).period ≡ pair_at 11 (after_frame value v)
