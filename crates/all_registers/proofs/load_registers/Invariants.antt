-- `all_registers::load_registers` meets its contract: the invariant and its steps are laws of `proofs/Loading.antt`. Assumes nothing.
use Rattle.all_registers.proofs.Loading.{Loading}
use Rattle.all_registers.proofs.load_registers.Given as goal

abbrev pub invariant-loop-register : goal.invariant-loop-register
invariant-loop-register l = Loading l.bytes l.initial.next l.next l.register
