-- Which variants there are, and what a making answers. 02, request 05; 01, "Numbers a call can answer". Assumes nothing.
use Rattle.std.specs.Prelude.{Bool, cond, ℕ, leb, Result, Ok, Err}
use Rattle.refusals.specs.Numbers.{answer_no}
use Rattle.refusals.specs.declared.Refusal.{Refusal}
use Rattle.refusals.specs.declared.Refusal.TheVariants.{NoSuchVariant}
use Rattle.clocks.specs.Clocks.{accept_clocks}

-- 0, the crate's; 1, the full-scale part; 2, the 16-step sister part. "a record with a variant above 2 gives 22".
unfoldable pub variant_in : ℕ → Bool
variant_in variant = leb variant 2

-- 13, "variant above 2 when a chip is made, checked after 1, 2 and 3".
abbrev pub after_clocks : Result (Unit {0}) Refusal → ℕ → Result (Unit {0}) Refusal
after_clocks (Ok done) variant = cond (variant_in variant) (Ok done) (Err NoSuchVariant)
after_clocks (Err why) variant = Err why

unfoldable pub accept_making : ℕ → ℕ → ℕ → Result (Unit {0}) Refusal
accept_making master rate variant = after_clocks (accept_clocks master rate) variant

-- the number that is answered
unfoldable pub making_no : ℕ → ℕ → ℕ → ℕ
making_no master rate variant = answer_no (accept_making master rate variant)
