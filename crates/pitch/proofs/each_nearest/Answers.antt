-- `pitch::each_nearest` meets its contract: what is left gives the whole (`Pairs`). Assumes nothing.
use Rattle.pitch.proofs.Lists.{pairs_start, pairs-off, pairs-on, pairs_end}
use Rattle.pitch.proofs.Ranges.{pitch-at}
use Rattle.pitch.proofs.each_nearest.Goals as goal

pub loop-i-init : goal.loop-i-init
loop-i-init c = pairs_start

pub nearest-requires : goal.nearest-requires
nearest-requires c = search pitch-at

pub returns-then-periods-i : goal.returns-then-periods-i
returns-then-periods-i c = search pairs-off

pub loop-i-preserved : goal.loop-i-preserved
loop-i-preserved c = search pairs-on

pub returns : goal.returns
returns c = search pairs_end
