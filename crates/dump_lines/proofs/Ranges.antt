-- What an accepted header line tells of its value. Assumes nothing.
use mathlib.Core.Path.{◌≡◌}
use Prim.Native.Nat.{ℕ, ◌/◌, ◌≤◌, ◌<◌}
use native.Mathlib.Omega.{arith}
use Rattle.std.specs.Prelude.{Option, Some, None, Ok}
use Rattle.dump_lines.specs.OneLine.{master_line, rate_line, words_line, frames_line}

pub master-range : (v : Option ℕ) (n : ℕ) → master_line v ≡ Ok n → n ≤ 1073741823
unfolding master_line
master-range None n h = cc
master-range (Some m) n h = grind arith

pub rate-range : (master : ℕ) (v : Option ℕ) (n : ℕ) → rate_line master v ≡ Ok n → (0 < n) × (n ≤ master / 8)
unfolding rate_line
rate-range master None n h = cc
rate-range master (Some m) n h = grind arith

pub words-range : (v : Option ℕ) (n : ℕ) → words_line v ≡ Ok n → (0 < n) × (n ≤ 4096)
unfolding words_line
words-range None n h = cc
words-range (Some m) n h = grind arith

pub frames-range : (v : Option ℕ) (n : ℕ) → frames_line v ≡ Ok n → n ≤ 1900
unfolding frames_line
frames-range None n h = cc
frames-range (Some m) n h = grind arith
