-- `all_registers::reset` meets its contract. Assumes nothing.
use Rattle.all_registers.specs.Reset.{voice_reset}
use Rattle.all_registers.proofs.reset.Goals as goal

pub returns : goal.returns
unfolding voice_reset
returns c = rw (c.apply_register.ensures, c.reset-generators.ensures)
