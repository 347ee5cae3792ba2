-- A wave gives at each of its row's 128 places the entry of 01's rule: one test over ten rows. Assumes nothing.
use mathlib.Core.Bool.{Bool}
use mathlib.Core.Path.{◌≡◌}
use Prim.Native.Nat.{ℕ, ◌*◌, ◌/◌, ◌<◌}
use native.Mathlib.Omega.{arith}
use lib.Dec.{eqb, eqb→eq}
use Rattle.laws.proofs.Table.{all, each}
use Rattle.envelope_shapes.specs.Shapes.{shape_entry, envelope_entry, RealOffset}
use Rattle.envelope_wave.specs.declared.Wave.{Wave}
use Rattle.envelope_wave.specs.Wave.{wave_of, IsWave, wave_entry}

-- what is made of an offset is a wave
pub made : (offset : ℕ) {w : Wave} → w ≡ wave_of offset → IsWave w
unfolding wave_of
made offset e = rw e

-- a wave is that of any offset equal to its own
pub same_shape : (w : Wave) (offset : ℕ) → IsWave w → offset ≡ w.offset → w ≡ wave_of offset
same_shape w offset h e = rw e h

same_entry : ℕ → ℕ → Bool
unfolding wave_of wave_entry envelope_entry shape_entry
same_entry row place = eqb (wave_entry place (wave_of (128 * row))) (envelope_entry (128 * row) place)

row-entry : (row place : ℕ) → row < 10 → place < 128 → wave_entry place (wave_of (128 * row)) ≡ envelope_entry (128 * row) place
unfolding same_entry wave_of wave_entry envelope_entry shape_entry
row-entry r p h k = eqb→eq (wave_entry p (wave_of (128 * r))) (envelope_entry (128 * r) p) (each 128 (same_entry r) (each 10 (λ x. all 128 (same_entry x)) tt r h) p k)

pub wave-entry : (offset place : ℕ) → RealOffset offset → place < 128 → wave_entry place (wave_of offset) ≡ envelope_entry offset place
wave-entry o p h k =
    let e : 128 * (o / 128) ≡ o = omega (arith, h.row) in
    rw e at (row-entry (o / 128) p (omega (arith, h.last)) k)
