-- What a frame's writes change, counted: none is to a register written before, and one is R13's unless that is ff. Assumes nothing.
use mathlib.Core.Path.{◌≡◌, refl, sym, ap, ◌∙◌}
use mathlib.Core.List.{List}
use Prim.Native.Nat.{ℕ, zero, suc, ◌+◌, ◌≤◌}
use native.Mathlib.Omega.{arith}
use lib.ListN.{length}
use Rattle.laws.proofs.Tests.{by-eq}
use Rattle.text_fields.specs.Fields.{hex_byte}
use Rattle.registers.specs.Writes.{applied_in_order, registers_from}
use Rattle.registers.specs.declared.Voice.{Voice}
use Rattle.write_effects.specs.Effects.{changes_in, differences, restarts_in}
use Rattle.write_effects.proofs.Laws.{bytes_left_lem, each-once}
use Rattle.dump_writes.specs.Writes.{registers_written, frame_writes}
use Rattle.dump_writes.proofs.Writing.{ff-written, other-written}

module _ (value : List ℕ) where
  at_most : registers_written value ≤ 14
  unfolding registers_written
  at_most = by-eq (λ (n : ℕ). n ≤ 14) (hex_byte value 13) 255 (λ _. omega arith) (λ _. omega arith)

  pub no-restart : hex_byte value 13 ≡ 255 → 0 ≡ restarts_in (frame_writes value)
  unfolding frame_writes registers_from restarts_in
  no-restart e = rw (← ff-written value e)

  pub one-restart : (hex_byte value 13 ≡ 255 → ⊥) → 1 ≡ restarts_in (frame_writes value)
  unfolding frame_writes registers_from restarts_in
  one-restart n = rw (← other-written value n)

  pub frame-changes : (v : Voice) {w : Voice} {changed : ℕ} → w ≡ applied_in_order (frame_writes value) v → changed ≡ differences 14 0 v.registers w.registers
      → changed ≡ changes_in (frame_writes value) v.registers
  unfolding frame_writes
  frame-changes v e d =
      rw e at d
      ∙ ap (differences 14 0 v.registers) (bytes_left_lem (registers_from (registers_written value) 0 (hex_byte value)) v)
      ∙ sym (each-once (hex_byte value) (registers_written value) 0 v.registers (omega (arith, at_most)))

  as_many : (n k : ℕ) → length (registers_from n k (hex_byte value)) ≡ n
  unfolding registers_from
  as_many zero k = refl
  as_many (suc n) k = ap suc (as_many n (k + 1))

  pub frame-few : length (frame_writes value) ≤ 14
  unfolding frame_writes
  frame-few = omega (arith, at_most, as_many (registers_written value) 0)
