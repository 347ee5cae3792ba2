-- What a call answers. 01, "Numbers a call can answer". Assumes nothing.
use Rattle.std.specs.Prelude.{ℕ, cond}
use Rattle.answers.specs.declared.Answered.{Answered}
use Rattle.answers.specs.declared.Byte.{Byte}
use Rattle.chip.specs.declared.Chip.{Chip}
use Rattle.chip.specs.Range.{chip_in}
use Rattle.refusals.specs.Numbers.{accepted, out_of_range}

-- the chip after a call, and the call's number
abbrev pub answered : ℕ → Chip → Answered
answered number c = record { chip = c; no = number }

-- 22 is checked before all else, and nothing changes.
abbrev pub unless22 : Chip → Answered → Answered
unless22 c answer = cond (chip_in c) answer (answered out_of_range c)

-- a call that accepts every record in range
abbrev pub does : (Chip → Chip) → Chip → Answered
does step c = unless22 c (answered accepted (step c))

abbrev pub byte_answer : ℕ → ℕ → Byte
byte_answer number value = record { no = number; value = value }
