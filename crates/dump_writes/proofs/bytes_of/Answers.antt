-- `dump_writes::bytes_of` meets its contract: a frame has the digits. Assumes nothing.
use Rattle.dump_writes.proofs.Reading.{frame-hex, frame-room}
use Rattle.dump_writes.proofs.bytes_of.Goals as goal

pub hex_byte-requires : goal.hex_byte-requires
hex_byte-requires c = record { s_value = search frame-hex; i_in_bounds = search frame-room }
