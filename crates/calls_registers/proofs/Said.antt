-- The calls that read are what their steps answer of the chip's stored bytes. Assumes nothing.
use mathlib.Core.Path.{◌≡◌, refl}
use Prim.Native.Nat.{ℕ}
use Rattle.chip.specs.declared.Chip.{Chip}
use Rattle.chip.specs.Range.{chip_in}
use Rattle.steps_registers.specs.RegisterSteps.{dump_said, register_said}
use Rattle.calls_registers.specs.Stored.{dump_registers, read_register}

pub register-said : (register : ℕ) (c : Chip) → register_said (chip_in c) c.core.voice.registers register ≡ read_register register c
unfolding register_said read_register
register-said register c = refl

pub dump-said : (c : Chip) → dump_said (chip_in c) c.core.voice.registers ≡ dump_registers c
unfolding dump_said dump_registers
dump-said c = refl
