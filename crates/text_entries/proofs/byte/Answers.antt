-- `text_entries::byte` meets its contract: what `is_byte` tells (`Bytes`). Assumes nothing.
use Rattle.text_entries.proofs.Bytes.{byte-hex, byte-room}
use Rattle.text_entries.proofs.byte.Goals as goal

pub hex_byte-requires : goal.hex_byte-requires
hex_byte-requires c = record { s_value = search byte-hex; i_in_bounds = search byte-room }
