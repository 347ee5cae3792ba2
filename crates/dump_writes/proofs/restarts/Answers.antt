-- `dump_writes::restarts` meets its contract: a law of `Counted` for each return. Assumes nothing.
use mathlib.Core.Path.{sym, ◌∙◌}
use native.Mathlib.Omega.{arith}
use Rattle.dump_writes.proofs.Reading.{frame-hex, frame-room}
use Rattle.dump_writes.proofs.Counted.{no-restart, one-restart}
use Rattle.dump_writes.proofs.restarts.Goals as goal

pub hex_byte-requires : goal.hex_byte-requires
hex_byte-requires c = record { s_value = frame-hex _ c.requires; i_in_bounds = frame-room _ c.requires {i = 13} (omega arith) }

pub returns-then-hex_byte-eq255 : goal.returns-then-hex_byte-eq255
returns-then-hex_byte-eq255 c = no-restart _ (sym c.hex_byte.ensures ∙ c.if-hex_byte-eq255.true)

pub returns : goal.returns
returns c = one-restart _ (λ e. c.if-hex_byte-eq255.false (c.hex_byte.ensures ∙ e))
