-- `text_fields::hex_byte` meets its contract: two digits of the run make a byte. Assumes nothing.
use Rattle.text_fields.proofs.Hexes.{high-given, high-is, low-given, low-is, digit-high, digits-fit, byte-is}
use Rattle.text_fields.proofs.hex_byte.Goals as goal

pub unwrap-high-requires : goal.unwrap-high-requires
unwrap-high-requires c = search high-given

pub unwrap-low-requires : goal.unwrap-low-requires
unwrap-low-requires c = search low-given

pub overflow_mul-result : goal.overflow_mul-result
overflow_mul-result c = search (digit-high, high-is)

pub overflow_add-result : goal.overflow_add-result
overflow_add-result c = search (digits-fit, high-is, low-is)

pub returns : goal.returns
returns c = search (byte-is, high-is, low-is)
