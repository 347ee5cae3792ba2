-- Register writes, one and many. 01, "Registers and ports". Assumes nothing.
use Rattle.std.specs.Prelude.{List, [], ◌∷◌, ℕ, zero, suc, ◌+◌, get_or}
use Rattle.registers.specs.declared.Voice.{Voice}
use Rattle.registers.specs.Registers.{apply_register}

-- A register write: a number, which decides what it does, and a byte.
pub record RegisterWrite : Type 0 where
  pub register : ℕ
  pub value : ℕ

-- Writes applied in order.
unfoldable pub applied_in_order : List RegisterWrite → Voice → Voice
applied_in_order [] v = v
applied_in_order (w ∷ ws) v = applied_in_order ws (apply_register w.register w.value v)

-- n writes, to the registers from `register` on, to each its own byte
unfoldable pub registers_from : ℕ → ℕ → (ℕ → ℕ) → List RegisterWrite
registers_from zero register byte = []
registers_from (suc n) register byte = record { register = register; value = byte register } ∷ registers_from n (register + 1) byte

-- R0 to R13 in order
abbrev pub all_registers : (ℕ → ℕ) → List RegisterWrite
all_registers byte = registers_from 14 0 byte

-- `load_registers` writes bytes 0 to 13 in order.
abbrev pub load_writes : List ℕ → List RegisterWrite
load_writes bytes = all_registers (λ register. get_or bytes register 0)

abbrev pub loaded : List ℕ → Voice → Voice
loaded bytes v = applied_in_order (load_writes bytes) v
