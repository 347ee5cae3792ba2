-- `read_port` is what its step answers of the chip's stored bytes and selection. Assumes nothing.
use mathlib.Core.Path.{◌≡◌, refl}
use Prim.Native.Nat.{ℕ}
use Rattle.chip.specs.declared.Chip.{Chip}
use Rattle.chip.specs.Range.{chip_in}
use Rattle.steps_registers.specs.RegisterSteps.{port_said}
use Rattle.calls_ports.specs.Ports.{read_port}

pub port-said : (port : ℕ) (c : Chip) → port_said (chip_in c) c.core.voice.registers c.core.selected port ≡ read_port port c
unfolding port_said read_port
port-said port c = refl
