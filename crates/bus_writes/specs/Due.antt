-- Before which words a write is due. 02, request 01. Assumes nothing.
use Rattle.std.specs.Prelude.{Bool, cond, ℕ, ◌-◌, ◌/◌, eqb, leb}
use Rattle.bus_writes.specs.declared.BusWrite.{BusWrite}

-- "Before each word, the writes stamped at or before its end"
abbrev pub is_due : ℕ → BusWrite → Bool
is_due end w = leb w.stamp end

-- how many words, the next one first, end before a stamp
unfoldable pub words_before : ℕ → ℕ → ℕ → ℕ
words_before start cycles stamp = cond (eqb cycles 0) 0 ((stamp - 1 - start) / cycles)
