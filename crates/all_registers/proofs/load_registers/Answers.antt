-- `all_registers::load_registers` meets its contract: the invariant and its steps are laws of `proofs/Loading.antt`. Assumes nothing.
use Rattle.all_registers.proofs.Loading.{loading-on, loading-end}
use Rattle.all_registers.proofs.load_registers.Goals as goal

pub loop-register-preserved : goal.loop-register-preserved
loop-register-preserved c = search loading-on

pub returns : goal.returns
returns c = search loading-end
