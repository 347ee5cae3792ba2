-- One slot of an array of 256 changed. 01, "Registers and ports". Assumes nothing.
use Rattle.std.specs.Prelude.{cond, List, ℕ, ltb, set}

-- A place from 256 on is no slot: the array as it was.
unfoldable pub put_at : {A : Type 0} → ℕ → A → List A → List A
put_at at x slots = cond (ltb at 256) (set slots at x) slots
