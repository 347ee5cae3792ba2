-- `registers::Voice::apply_register` meets its contract. Assumes nothing.
use mathlib.Core.Path.{◌∙◌}
use Rattle.laws.proofs.Tests.{tests, on-gt}
use Rattle.registers.specs.Registers.{apply_register}
use Rattle.registers.proofs.Voice.apply_register.Goals as goal

pub returns-then-register-ge-REGISTERS : goal.returns-then-register-ge-REGISTERS
unfolding apply_register
returns-then-register-ge-REGISTERS c = search tests

pub returns : goal.returns
unfolding apply_register
returns c = on-gt 14 _ _ _ _ c.if-register-ge-REGISTERS.false (c.set.ensures ∙ rw (← c.masked_byte-byte.ensures))
