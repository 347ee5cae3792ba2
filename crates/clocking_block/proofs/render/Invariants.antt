-- `clocking_block::render` meets its contract: the invariant and its steps are laws of `proofs/Filling.antt`. Assumes nothing.
use Prim.Native.Nat.{◌-◌}
use lib.ListN.{length}
use Rattle.queue.specs.Waiting.{ring}
use Rattle.clocking_block.specs.Block.{chip_with}
use Rattle.clocking_block.proofs.Filling.{Filling}
use Rattle.clocking_block.proofs.render.Given as goal

abbrev pub invariant-loop-i : goal.invariant-loop-i
invariant-loop-i l = Filling l.wave l.scale (chip_with l.initial.core (ring l.stamps l.registers l.values l.initial.head l.initial.count)) l.core (ring l.stamps l.registers l.values l.head l.count) l.gate l.initial.out l.out l.ticks l.i

abbrev pub decreases-loop-i : goal.decreases-loop-i
decreases-loop-i l = length l.initial.out - l.i
