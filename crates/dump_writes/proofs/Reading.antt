-- What `is_frame` says of a value: its digits are hex, and there is room for fourteen bytes. Assumes nothing.
use mathlib.Core.Bool.{true}
use mathlib.Core.Path.{◌≡◌}
use mathlib.Core.List.{List}
use Prim.Native.Nat.{ℕ, ◌+◌, ◌*◌, ◌<◌}
use native.Mathlib.Omega.{arith}
use borrow.Author.Tests.{eqb-true}
use lib.Dec.{eqb}
use lib.ListN.{length}
use Rattle.laws.proofs.Lists.{both-parts}
use Rattle.text_fields.specs.Fields.{all_hex}
use Rattle.dump_lines.specs.OneLine.{is_frame}

-- a frame's value has 28 digits
module _ (value : List ℕ) (e : is_frame value ≡ true) where
  parts : (eqb (length value) 28 ≡ true) × (all_hex value ≡ true)
  unfolding is_frame
  parts = both-parts (eqb (length value) 28) (all_hex value) e

  pub frame-hex : all_hex value ≡ true
  frame-hex = parts.1

  pub frame-room : {i : ℕ} → i < 14 → 2 * i + 1 < length value
  frame-room h = let z : length value ≡ 28 = eqb-true (length value) 28 parts.0 in omega arith
