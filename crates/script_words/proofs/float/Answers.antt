-- `script_words::float` is safe: what the test leaves are the bits of a number. Assumes nothing.
use Rattle.laws.proofs.Floats.{number-bits}
use Rattle.script_words.proofs.float.Goals as goal

pub float_from_bits-result : goal.float_from_bits-result
float_from_bits-result c = search number-bits
