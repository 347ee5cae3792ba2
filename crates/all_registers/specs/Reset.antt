-- Power-on and reset of what the registers rule. 01, "Power-on and reset". Assumes nothing.
use Rattle.std.specs.Prelude.{false, replicate}
use Rattle.generators.specs.Reset.{generators_reset, generators_new}
use Rattle.generators.specs.declared.Generators.{Generators}
use Rattle.registers.specs.declared.Voice.{Voice}
use Rattle.registers.specs.Registers.{apply_register}

-- no register written, no gate filled, the IRQ flag 0
abbrev pub zeros : Generators → Voice
zeros g = record { registers = replicate 14 0; generators = g; gates = record { tone = 0; noise = 0 }; irq = false }

-- Reset sets registers 0 and then 0x3F to R7, and the IRQ flag to 0.
unfoldable pub voice_reset : Voice → Voice
voice_reset v = apply_register 7 0x3f (zeros (generators_reset v.generators))

abbrev pub voice_new : Voice
voice_new = voice_reset (zeros generators_new)
