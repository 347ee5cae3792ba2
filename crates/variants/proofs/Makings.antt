-- What a making's number says. 01, "Numbers a call can answer"; 02, request 05. Assumes nothing.
use mathlib.Core.Bool.{true}
use mathlib.Core.Path.{◌≡◌, refl}
use Prim.Native.Nat.{ℕ, ◌≤◌}
use native.Mathlib.Omega.{arith}
use borrow.Author.Tests.{le-leb}
use Rattle.std.specs.Prelude.{Result, Ok, Err}
use Rattle.refusals.specs.Numbers.{accepted, answer_no}
use Rattle.refusals.specs.declared.Refusal.{Refusal}
use Rattle.clocks.specs.Clocks.{accept_clocks, clocks_no}
use Rattle.variants.specs.Variants.{variant_in, after_clocks, accept_making, making_no}

pub variant-passes : {variant : ℕ} → variant ≤ 2 → variant_in variant ≡ true
unfolding variant_in
variant-passes h = le-leb _ _ h

-- an accepted making is of accepted clocks
clocks-of : (tested : Result (Unit {0}) Refusal) (variant : ℕ) → answer_no (after_clocks tested variant) ≡ accepted → answer_no tested ≡ accepted
clocks-of (Ok done) variant e = refl
clocks-of (Err why) variant e = e

pub clocks-accepted : (master rate variant : ℕ) → making_no master rate variant ≡ accepted → clocks_no master rate ≡ accepted
unfolding making_no accept_making clocks_no
clocks-accepted master rate variant e = clocks-of (accept_clocks master rate) variant e

-- and of a variant to 2
variant-of : (tested : Result (Unit {0}) Refusal) (variant : ℕ) → answer_no (after_clocks tested variant) ≡ accepted → variant ≤ 2
unfolding variant_in
variant-of tested variant e = grind arith

pub variant-accepted : (master rate variant : ℕ) → making_no master rate variant ≡ accepted → variant ≤ 2
unfolding making_no accept_making
variant-accepted master rate variant e = variant-of (accept_clocks master rate) variant e

-- variant 0 is never refused
zero-passes : (tested : Result (Unit {0}) Refusal) → answer_no (after_clocks tested 0) ≡ answer_no tested
unfolding variant_in
zero-passes (Ok done) = refl
zero-passes (Err why) = refl

pub clocks-alone : (master rate : ℕ) → making_no master rate 0 ≡ clocks_no master rate
unfolding making_no accept_making clocks_no
clocks-alone master rate = zero-passes (accept_clocks master rate)
