-- `clocking_block::render` meets its contract: the invariant and its steps are laws of `proofs/Filling.antt`. Assumes nothing.
use native.Mathlib.Omega.{arith}
use Rattle.envelope_wave.proofs.Entries.{made}
use Rattle.clocking_block.proofs.Filling.{filling-start, next-soon, all-soon, drained-queue, due-ok, filling-on, further, filled, filling-kept, filling-none}
use Rattle.clocking_block.proofs.render.Goals as goal

pub loop-i-init : goal.loop-i-init
loop-i-init c = filling-start c.wave_of-wave.ensures c.scale_of-scale.ensures c.requires.core_in_range c.requires.queue_in_range c.requires.out_len_bound c.requires.cycles_bound

pub overflow_add-end : goal.overflow_add-end
overflow_add-end c = record { fits = next-soon c.loop-i.invariant c.loop-i-test.true }

pub drain-drained-requires : goal.drain-drained-requires
drain-drained-requires c = c.loop-i.invariant.queue

pub wave_after-wave-requires : goal.wave_after-wave-requires
wave_after-wave-requires c = made _ c.loop-i.invariant.wave

pub next_due-due-requires : goal.next_due-due-requires
next_due-due-requires c = (drained-queue c.loop-i.invariant c.drain-drained.ensures).head

pub run_words-run-requires : goal.run_words-run-requires
run_words-run-requires c = let inv = c.loop-i.invariant in record { core_in_range = due-ok inv c.drain-drained.ensures; wave_value = c.wave_after-wave.ensures; scale_value = inv.scale; first_in_bounds = (c.loop-i-test.true, omega (arith, inv.long, inv.room)); cycles_bound = all-soon inv }

pub overflow_add-ticks : goal.overflow_add-ticks
overflow_add-ticks c = let inv = c.loop-i.invariant in
    let u = c.run_words-run.ensures in
    let more = further inv c.drain-drained.ensures c.next_due-due.ensures u in
    omega (arith, inv.few, inv.place, inv.room, inv.long, u.room)

pub loop-i-smaller : goal.loop-i-smaller
loop-i-smaller c = let inv = c.loop-i.invariant in
    let u = c.run_words-run.ensures in
    omega (arith, u.next, u.room, inv.long)

pub loop-i-preserved : goal.loop-i-preserved
loop-i-preserved c = let inv = c.loop-i.invariant in
    filling-on inv c.drain-drained.ensures c.next_due-due.ensures c.run_words-run.ensures c.wave_after-wave.ensures

pub kept_of_word-channels-requires : goal.kept_of_word-channels-requires
kept_of_word-channels-requires c = let inv = c.loop-i.invariant in record { envelope_in_range = inv.ok.voice.generators.envelope }

pub shape_of-out-then-i-gt0 : goal.shape_of-out-then-i-gt0
shape_of-out-then-i-gt0 c = c.loop-i.invariant.long

pub returns-then-i-gt0 : goal.returns-then-i-gt0
returns-then-i-gt0 c = let inv = c.loop-i.invariant in
    let full = c.loop-i-test.false in record { value = filling-kept inv full c.if-i-gt0.true c.kept_of_word-channels.ensures; out_after = filled inv full }

pub shape_of-out-else-i-gt0 : goal.shape_of-out-else-i-gt0
shape_of-out-else-i-gt0 c = c.loop-i.invariant.long

pub returns-else-i-gt0 : goal.returns-else-i-gt0
returns-else-i-gt0 c = let inv = c.loop-i.invariant in record { value = filling-none inv c.loop-i-test.false c.if-i-gt0.false; out_after = filled inv c.loop-i-test.false }
