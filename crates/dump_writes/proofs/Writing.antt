-- A frame's writes, one after the other: `write_frame`'s invariant and its moves. Assumes nothing.
use mathlib.Core.Path.{◌≡◌, refl, sym, ◌∙◌}
use mathlib.Core.List.{List}
use Prim.Native.Nat.{ℕ, suc, ◌+◌, ◌-◌, ◌≤◌, ◌<◌}
use native.Mathlib.Omega.{arith}
use lib.ListN.{get_or}
use Rattle.laws.proofs.Tests.{on-eq, on-ne}
use Rattle.text_fields.specs.Fields.{hex_byte}
use Rattle.registers.specs.Registers.{apply_register}
use Rattle.registers.specs.Writes.{applied_in_order, registers_from}
use Rattle.registers.specs.declared.Voice.{Voice}
use Rattle.dump_writes.specs.Writes.{registers_written, frame_writes}

-- the first n registers of a frame
abbrev pub first : ℕ → List ℕ → Voice → Voice
first n value v = applied_in_order (registers_from n 0 (hex_byte value)) v

module _ (value : List ℕ) where
  pub ff-written : hex_byte value 13 ≡ 255 → 13 ≡ registers_written value
  unfolding registers_written
  ff-written e = on-eq (hex_byte value 13) 255 13 13 14 e refl

  pub other-written : (hex_byte value 13 ≡ 255 → ⊥) → 14 ≡ registers_written value
  unfolding registers_written
  other-written n = on-ne (hex_byte value 13) 255 14 13 14 n refl

-- R0 to R12, and R13 behind them
module _ (value : List ℕ) (v : Voice) where
  pub fourteen : first 14 value v ≡ apply_register 13 (hex_byte value 13) (first 13 value v)
  unfolding registers_from applied_in_order
  fourteen = refl

  pub of-ff : hex_byte value 13 ≡ 255 → applied_in_order (frame_writes value) v ≡ first 13 value v
  unfolding frame_writes
  of-ff e = rw (← ff-written value e)

  pub of_other : (hex_byte value 13 ≡ 255 → ⊥) → applied_in_order (frame_writes value) v ≡ apply_register 13 (hex_byte value 13) (first 13 value v)
  unfolding frame_writes
  of_other n = rw (← other-written value n, fourteen)

-- what is left to write gives R0 to R12
pub record Writing (value bytes : List ℕ) (v₀ v : Voice) (i : ℕ) : Type 0 where
  pub held : (k : ℕ) → k < 14 → get_or bytes k 0 ≡ hex_byte value k
  pub within : i ≤ 13
  pub rest : applied_in_order (registers_from (13 - i) i (hex_byte value)) v ≡ first 13 value v₀

module _ {value bytes : List ℕ} {v₀ v : Voice} {i : ℕ} (m : Writing value bytes v₀ v i) where
  pub writing-on : {w : Voice} → i < 13 → w ≡ apply_register i (get_or bytes i 0) v → Writing value bytes v₀ w (i + 1)
  unfolding applied_in_order registers_from
  writing-on h q =
      let more : 13 - i ≡ suc (13 - (i + 1)) = omega arith in
      record { held = m.held; within = omega arith; rest = rw (q, m.held i (omega arith)) (rw more at m.rest) }

  thirteen : 13 ≤ i → v ≡ first 13 value v₀
  unfolding applied_in_order registers_from
  thirteen h = let none : 13 - i ≡ 0 = omega arith in rw none at m.rest

  shape : get_or bytes 13 0 ≡ hex_byte value 13
  shape = m.held 13 (omega arith)

  pub ends-ff : 13 ≤ i → get_or bytes 13 0 ≡ 255 → v ≡ applied_in_order (frame_writes value) v₀
  ends-ff h e = thirteen h ∙ sym (of-ff value v₀ (sym shape ∙ e))

  pub ends-other : {w : Voice} → 13 ≤ i → (get_or bytes 13 0 ≡ 255 → ⊥) → w ≡ apply_register 13 (get_or bytes 13 0) v → w ≡ applied_in_order (frame_writes value) v₀
  ends-other h n q = rw (q, thirteen h, shape) (sym (of_other value v₀ (λ e. n (shape ∙ e))))
