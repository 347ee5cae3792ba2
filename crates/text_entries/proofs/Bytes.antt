-- A value of two lower-case hex digits is a byte: what `is_byte` tells of it. Assumes nothing.
use mathlib.Core.Bool.{Bool, true}
use mathlib.Core.Path.{◌≡◌, sym, ◌∙◌}
use mathlib.Core.List.{List}
use Prim.Native.Nat.{ℕ, ◌+◌, ◌*◌, ◌≤◌, ◌<◌}
use native.Mathlib.Omega.{arith}
use borrow.Author.Tests.{eqb-true}
use lib.Dec.{eqb}
use lib.ListN.{length}
use Rattle.laws.proofs.Lists.{both-parts}
use Rattle.text_fields.specs.Fields.{all_hex, hex_byte}
use Rattle.text_fields.proofs.Hexes.{hex-at}
use Rattle.text_entries.specs.Entries.{is_byte}

module _ (s : List ℕ) {r : Bool} (q : r ≡ is_byte s) (h : r ≡ true) where
  parts : (eqb (length s) 2 ≡ true) × (all_hex s ≡ true)
  unfolding is_byte
  parts = both-parts (eqb (length s) 2) (all_hex s) (sym q ∙ h)

  pub byte-hex : all_hex s ≡ true
  byte-hex = parts.1

  byte-long : length s ≡ 2
  byte-long = eqb-true (length s) 2 parts.0

  pub byte-room : 2 * 0 + 1 < length s
  byte-room = omega (arith, byte-long)

  pub byte-top : hex_byte s 0 ≤ 255
  unfolding hex_byte
  byte-top = omega (arith, hex-at s byte-hex 0 (omega (arith, byte-long)), hex-at s byte-hex 1 (omega (arith, byte-long)))
