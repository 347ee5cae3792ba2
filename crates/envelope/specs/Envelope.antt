-- The envelope. 01, "Power-on and reset", "Registers and ports" and "One tick, one word". Assumes nothing.
use Rattle.std.specs.Prelude.{cond, ℕ, ◌+◌, ◌%◌, leb, ℤ, pos, negsuc, nat_abs, ◌+ℤ◌}
use Rattle.std.specs.Int.Signed.{lt_z}
use Rattle.envelope_shapes.specs.Shapes.{offset_of, envelope_entry}
use Rattle.envelope.specs.declared.Envelope.{Envelope}

-- Reset sets envelope counter, position and shape offset to 0. It keeps envelope period.
abbrev pub envelope_reset : Envelope → Envelope
envelope_reset e = record { counter = 0; period = e.period; position = pos 0; offset = 0 }

-- 11 and 12 [set] the envelope period
abbrev pub envelope_set : ℕ → Envelope → Envelope
envelope_set period e = record { counter = e.counter; period = period; position = e.position; offset = e.offset }

-- -64: a position n below zero is `negsuc (n - 1)`
abbrev pub restart_position : ℤ
restart_position = negsuc 63

-- `trigger_envelope` restarts at -64, counter 0, same shape.
abbrev pub restarted : Envelope → Envelope
restarted e = record { counter = 0; period = e.period; position = restart_position; offset = e.offset }

-- 13 picks the shape and restarts at -64 with counter 0, even for the same byte.
abbrev pub shaped : ℕ → Envelope → Envelope
shaped shape e = record { counter = 0; period = e.period; position = restart_position; offset = offset_of (shape % 16) }

-- the position steps, 63 going to 0
unfoldable pub next_position : ℤ → ℤ
next_position position = cond (lt_z position (pos 63)) (position +ℤ pos 1) (pos 0)

abbrev pub counted : Envelope → Envelope
counted e = record { counter = e.counter + 1; period = e.period; position = e.position; offset = e.offset }

abbrev pub stepped : Envelope → Envelope
stepped e = record { counter = 0; period = e.period; position = next_position e.position; offset = e.offset }

-- Envelope: counter plus 1; on reaching the period the position steps, counter 0.
unfoldable pub envelope_tick : Envelope → Envelope
envelope_tick e = cond (leb e.period (e.counter + 1)) (stepped e) (counted e)

-- the place in a shape's row: position plus 64
unfoldable pub row_place : ℤ → ℕ
row_place position = nat_abs (position +ℤ pos 64)

-- the envelope's level: the entry of its shape at its position
unfoldable pub envelope_level : Envelope → ℕ
envelope_level e = envelope_entry e.offset (row_place e.position)
