-- Where a capture's writes stand, and their order. 02, request 01: "stamp lower than the one before". Assumes nothing.
use Rattle.std.specs.Prelude.{ℕ, zero, suc, ◌≤◌, List, [], ◌∷◌}
use Rattle.text_lines.specs.Lines.{line_at}
use Rattle.bus_writes.specs.declared.BusWrite.{BusWrite}

-- no stamp is lower than the one before it; the first is held to `before`
abbrev pub Rising : ℕ → List BusWrite → Type 0
Rising before [] = Unit {0}
Rising before (w ∷ ws) = (before ≤ w.stamp) × Rising w.stamp ws

-- the place of the line n lines on from a place
abbrev pub line_from : List ℕ → ℕ → ℕ → ℕ
line_from text zero at = at
line_from text (suc n) at = (line_at text (line_from text n at)).next
