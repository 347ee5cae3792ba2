-- `clocking_run::run_words` meets its contract: the invariant and its steps are laws of `proofs/Running.antt`. Assumes nothing.
use mathlib.Core.Path.{refl}
use native.Mathlib.Omega.{arith}
use Rattle.envelope.proofs.Circling.{envelope-level-lt}
use Rattle.level_scale.proofs.Picking.{made, lift-lt, used-lt}
use Rattle.word_sum.proofs.Summing.{are-sources}
use Rattle.clocking_run.proofs.Running.{running-start, running-on, running-end, next-soon, ran-next, ran-ok, ran-wave, again-soon, word_next}
use Rattle.clocking_run.proofs.run_words.Goals as goal

pub sources-sources-requires : goal.sources-sources-requires
sources-sources-requires c = search (lift-lt, made)

pub loop-more-init : goal.loop-more-init
loop-more-init c = search running-start

pub run_ticks-ran-requires : goal.run_ticks-ran-requires
run_ticks-ran-requires c = record { clocks_run = c.loop-more.invariant.ok.run; generators_in_range = c.loop-more.invariant.ok.voice.generators }

pub overflow_add-ticks : goal.overflow_add-ticks
overflow_add-ticks c = let inv = c.loop-more.invariant in omega (arith, c.struct_known-1.given, inv.few, inv.place, inv.room, inv.size)

pub overflow_add-start : goal.overflow_add-start
overflow_add-start c = record { fits = next-soon c.loop-more.invariant c.loop-more-test.true }

pub level_in-level-requires : goal.level_in-level-requires
level_in-level-requires c = let inv = c.loop-more.invariant in
    let ran = ran-next inv c.loop-more-test.true c.run_ticks-ran.ensures in record { envelope_in_range = (ran-ok inv c.loop-more-test.true ran).voice.generators.envelope; wave_value = ran-wave inv c.loop-more-test.true ran }

pub word-requires : goal.word-requires
word-requires c = let inv = c.loop-more.invariant in
    let ran = ran-next inv c.loop-more-test.true c.run_ticks-ran.ensures in
    let level = envelope-level-lt (ran-ok inv c.loop-more-test.true ran).voice.generators.envelope in record { are_sources = are-sources _ c.volumes_of.result c.sources-sources.ensures (made _ inv.scale); used_bound = rw (c.used.ensures, c.level_in-level.ensures) (used-lt _ _ level) }

pub bounds-out-i : goal.bounds-out-i
bounds-out-i c = let z = c.loop-more.invariant.goes c.loop-more-test.true in omega (arith, c.loop-more.invariant.long)

pub overflow_add-i : goal.overflow_add-i
overflow_add-i c = let inv = c.loop-more.invariant in omega (arith, inv.room, inv.size)

pub goes_on-more-requires : goal.goes_on-more-requires
goes_on-more-requires c = again-soon c.loop-more.invariant c.loop-more-test.true _

pub loop-more-smaller : goal.loop-more-smaller
loop-more-smaller c = let z = c.loop-more.invariant.goes c.loop-more-test.true in omega arith

pub loop-more-preserved : goal.loop-more-preserved
loop-more-preserved c = let inv = c.loop-more.invariant in
    let t = c.loop-more-test.true in
    let ran = ran-next inv t c.run_ticks-ran.ensures in
    running-on inv t ran (omega (arith, inv.goes t, inv.long))
    (word_next inv t ran c.word.ensures c.sources-sources.ensures c.volumes_of.ensures c.halves_of.ensures
    c.used.ensures c.level_in-level.ensures) refl c.goes_on-more.ensures

pub shape_of-out : goal.shape_of-out
shape_of-out c = c.loop-more.invariant.long

pub returns : goal.returns
returns c = running-end c.loop-more.invariant c.loop-more-test.false
