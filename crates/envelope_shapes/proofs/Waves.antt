-- Laws of the shapes: every shape reads its own wave, and no entry is above 31. Assumes nothing.
use mathlib.Core.Bool.{Bool}
use mathlib.Core.Path.{◌≡◌, ap, ◌∙◌}
use Prim.Native.Nat.{ℕ, ◌*◌, ◌/◌, ◌<◌}
use native.Mathlib.Omega.{arith}
use lib.Dec.{eqb, ltb, eqb→eq, ltb→lt}
use Rattle.laws.proofs.Table.{all, each}
use Rattle.envelope_shapes.specs.Shapes.{shape_entry, row_of, first_of_row, offset_of, envelope_entry, RealOffset}

-- shapes that share a row have one wave: one test over sixteen shapes and 128 places
same_wave : ℕ → ℕ → Bool
unfolding shape_entry
same_wave shape place = eqb (shape_entry (first_of_row (row_of shape)) place) (shape_entry shape place)

same-wave : (shape place : ℕ) → shape < 16 → place < 128 → shape_entry (first_of_row (row_of shape)) place ≡ shape_entry shape place
unfolding same_wave shape_entry
same-wave s p h k =
    eqb→eq (shape_entry (first_of_row (row_of s)) p) (shape_entry s p) (each 128 (same_wave s) (each 16 (λ x. all 128 (same_wave x)) tt s h) p k)

row_back : (row : ℕ) → 128 * row / 128 ≡ row
row_back row = omega arith

-- the row that a shape points to holds that shape's own wave
pub shape-entry : (shape place : ℕ) → shape < 16 → place < 128 → envelope_entry (offset_of shape) place ≡ shape_entry shape place
unfolding envelope_entry
shape-entry s p h k = ap (λ (row : ℕ). shape_entry (first_of_row row) p) (row_back (row_of s)) ∙ same-wave s p h k

row_lt : (shape : ℕ) → shape < 16 → row_of shape < 10
row_lt s h = ltb→lt (row_of s) 10 (each 16 (λ x. ltb (row_of x) 10) tt s h)

-- every shape's offset is a real one
pub offset-real : (shape : ℕ) → shape < 16 → RealOffset (offset_of shape)
offset-real s h = go (row_of s) (row_lt s h)
  where
    go : (row : ℕ) → row < 10 → RealOffset (128 * row)
    go row k = record { row = omega arith; last = omega arith }

-- an entry is a level index
small_entry : ℕ → ℕ → Bool
unfolding shape_entry
small_entry row place = ltb (shape_entry (first_of_row row) place) 32

pub entry_lt : (offset place : ℕ) → RealOffset offset → place < 128 → envelope_entry offset place < 32
unfolding envelope_entry small_entry shape_entry
entry_lt o p h k =
    let r : o / 128 < 10 = omega (arith, h.last) in
    ltb→lt (shape_entry (first_of_row (o / 128)) p) 32 (each 128 (small_entry (o / 128)) (each 10 (λ x. all 128 (small_entry x)) tt (o / 128) r) p k)
