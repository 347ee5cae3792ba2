-- Accepted clocks. 01, "Numbers a call can answer". Assumes nothing.
use Rattle.std.specs.Prelude.{Bool, cond, ℕ, ◌/◌, ltb, eqb, Result, Ok, Err}
use Rattle.refusals.specs.Numbers.{answer_no}
use Rattle.refusals.specs.declared.Refusal.{Refusal}
use Rattle.refusals.specs.declared.Refusal.TheVariants.{MasterTooHigh, RateZero, RateTooHigh}

-- 1: master clock above 1,073,741,823
abbrev pub too_high : ℕ → Bool
too_high master = ltb 1073741823 master

abbrev pub accept_master : ℕ → Result (Unit {0}) Refusal
accept_master master = cond (too_high master) (Err MasterTooHigh) (Ok tt)

-- 2: sample rate 0. 3: sample rate above master / 8, rounded down
abbrev pub accept_rate : ℕ → ℕ → Result (Unit {0}) Refusal
accept_rate master rate =
    cond (eqb rate 0) (Err RateZero)
    (cond (ltb (master / 8) rate) (Err RateTooHigh)
    (Ok tt))

-- Then the order is 1, 2, 3.
unfoldable pub accept_clocks : ℕ → ℕ → Result (Unit {0}) Refusal
accept_clocks master rate = cond (too_high master) (Err MasterTooHigh) (accept_rate master rate)

-- the numbers that are answered
abbrev pub master_no : ℕ → ℕ
master_no master = answer_no (accept_master master)

abbrev pub rate_no : ℕ → ℕ → ℕ
rate_no master rate = answer_no (accept_rate master rate)

unfoldable pub clocks_no : ℕ → ℕ → ℕ
clocks_no master rate = answer_no (accept_clocks master rate)
