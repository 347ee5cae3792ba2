-- `steps_voice::applied` meets its contract: with the IRQ flag off the byte is stored and its register settled. Assumes nothing.
use Rattle.settling.proofs.Stored.{past-registers}
use Rattle.settling.proofs.Alone.{applied-so}
use Rattle.steps_voice.proofs.applied.Goals as goal

pub returns-then-register-ge-REGISTERS : goal.returns-then-register-ge-REGISTERS
returns-then-register-ge-REGISTERS c = search past-registers

pub returns : goal.returns
returns c = search applied-so
