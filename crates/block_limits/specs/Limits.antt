-- The limits of a block. 01, "Numbers a call can answer". Assumes nothing.
use Rattle.std.specs.Prelude.{◌*◌, ◌+◌, ◌^◌, ℕ, leb, ltb, cond, Result, Ok, Err}
use Rattle.refusals.specs.Numbers.{answer_no}
use Rattle.refusals.specs.declared.Refusal.{Refusal}
use Rattle.refusals.specs.declared.Refusal.TheVariants.{BlockTooLong, BlockTooLate}

-- block buffer longer than 65,536 words; block's last word would end past cycle 2^64 - 1; in this order
unfoldable pub accept_block : ℕ → ℕ → ℕ → Result (Unit {0}) Refusal
accept_block n start cycles =
    cond (ltb 65536 n) (Err BlockTooLong)
    (cond (leb (2 ^ 64) (start + n * cycles)) (Err BlockTooLate)
    (Ok tt))

-- the number that is answered
unfoldable pub block_number : ℕ → ℕ → ℕ → ℕ
block_number n start cycles = answer_no (accept_block n start cycles)
