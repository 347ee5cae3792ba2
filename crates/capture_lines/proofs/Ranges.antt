-- What an accepted line tells of its value. Assumes nothing.
use mathlib.Core.Path.{◌≡◌}
use Prim.Native.Nat.{ℕ, ◌≤◌, ◌<◌}
use native.Mathlib.Omega.{arith}
use Rattle.std.specs.Prelude.{Option, Some, None, Result, Ok, Err}
use Rattle.text_stamps.specs.declared.Misread.{Misread}
use Rattle.text_stamps.specs.declared.Misread.TheVariants.{NotOfForm, TooHigh}
use Rattle.capture_lines.specs.OneLine.{writes_line, words_line, stamp_line, port_line, value_line}

pub writes-range : (v : Option ℕ) (n : ℕ) → writes_line v ≡ Ok n → n ≤ 1500
unfolding writes_line
writes-range None n h = cc
writes-range (Some m) n h = grind arith

pub words-range : (v : Option ℕ) (n : ℕ) → words_line v ≡ Ok n → (0 < n) × (n ≤ 65536)
unfolding words_line
words-range None n h = cc
words-range (Some m) n h = grind arith

pub port-range : (v : Option ℕ) (n : ℕ) → port_line v ≡ Ok n → n ≤ 3
unfolding port_line
port-range None n h = cc
port-range (Some m) n h = grind arith

pub value-read : (v : Option ℕ) (n : ℕ) → value_line v ≡ Ok n → v ≡ Some n
unfolding value_line
value-read None n h = cc
value-read (Some m) n h = cc

-- a stamp that is taken is the one that was read, not lower than the one before, and one that is taken after a stamp is taken after none
pub stamp-read : (before : ℕ) (v : Result ℕ Misread) (n : ℕ) → stamp_line before v ≡ Ok n → (v ≡ Ok n) × (before ≤ n) × (stamp_line 0 v ≡ Ok n)
unfolding stamp_line
stamp-read before (Err NotOfForm) n h = cc
stamp-read before (Err TooHigh) n h = cc
stamp-read before (Ok m) n h = grind arith
