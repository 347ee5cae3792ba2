-- How much of an input must be read. 01, "Numbers a call can answer": 11 is a dump longer than 65,536 bytes. Assumes nothing.
use Rattle.std.specs.Prelude.{ℕ}

-- with so many bytes a dump is known to be too long, whatever follows them
abbrev pub enough : ℕ
enough = 65537
