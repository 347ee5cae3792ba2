-- The calls on stamps and the queue are what their steps make and answer of the chip's stamp, start, voice and ring. Assumes nothing.
use mathlib.Core.Path.{◌≡◌, refl}
use mathlib.Core.Bool.{Bool, true, false, cond}
use mathlib.Core.List.{List}
use Prim.Native.Nat.{ℕ}
use Rattle.refusals.specs.Numbers.{accepted, out_of_range}
use Rattle.registers.specs.Writes.{RegisterWrite}
use Rattle.write_effects.specs.Effects.{changes_in, restarts_in}
use Rattle.chip.specs.declared.Chip.{Chip}
use Rattle.chip.specs.Range.{chip_in}
use Rattle.queue.specs.Waiting.{emptied, ring, waiting}
use Rattle.queue_flush.specs.Applied.{apply_all, register_writes}
use Rattle.chip_parts.specs.Parts.{with_queue, with_times, with_voice}
use Rattle.answers.specs.Answers.{answered}
use Rattle.answers.specs.Reports.{applied, bytes_of, counts}
use Rattle.answers.specs.declared.Answered.{Answered}
use Rattle.answers.specs.declared.Applied.{Applied}
use Rattle.steps_cycles.specs.declared.Stamped.{Stamped}
use Rattle.steps_cycles.specs.declared.Synced.{Synced}
use Rattle.steps_cycles.specs.CycleSteps.{both_set, count_said, cycle_said, stamped, stamp_set, synced}
use Rattle.steps_queue.specs.declared.FlushStep.{FlushStep}
use Rattle.steps_queue.specs.QueueSteps.{flush_leaves, flush_step}
use Rattle.calls_cycles.specs.Cycles.{cpu_cycle, flushed, flushed_pending_writes, flush_pending_writes, pending_write_count, set_cpu_cycle, sync_sample_cycle}

-- the chip after a step, and its number
abbrev pub with-stamp : Stamped → Chip → Answered
with-stamp r c = answered r.no (with_times r.stamp c.core.start c)

stamp-same : (ok : Bool) (n : ℕ) (c : Chip) → with-stamp (cond ok (stamped n accepted) (stamped c.core.stamp out_of_range)) c ≡ cond ok (answered accepted (with_times n c.core.start c)) (answered out_of_range c)
stamp-same true n c = refl
stamp-same false n c = refl

pub stamp-set : (n : ℕ) (c : Chip) → with-stamp (stamp_set (chip_in c) c.core.stamp n) c ≡ set_cpu_cycle n c
unfolding stamp_set set_cpu_cycle
stamp-set n c = stamp-same (chip_in c) n c

abbrev pub with-both : Synced → Chip → Answered
with-both r c = answered r.no (with_times r.stamp r.start c)

both-same : (ok : Bool) (n : ℕ) (c : Chip) → with-both (cond ok (synced n n accepted) (synced c.core.stamp c.core.start out_of_range)) c ≡ cond ok (answered accepted (with_times n n c)) (answered out_of_range c)
both-same true n c = refl
both-same false n c = refl

pub both-set : (n : ℕ) (c : Chip) → with-both (both_set (chip_in c) c.core.stamp c.core.start n) c ≡ sync_sample_cycle n c
unfolding both_set sync_sample_cycle
both-set n c = both-same (chip_in c) n c

-- the slots are as they were
abbrev pub with-flush : FlushStep → Chip → Applied
with-flush r c =
    record {
      chip = with_queue (ring c.queue.stamps c.queue.registers c.queue.values r.head r.count) (with_voice r.voice c);
      answer = r.answer;
    }

flush-same : (ok : Bool) (c : Chip) (writes : List RegisterWrite)
    → with-flush (cond ok (flush_leaves (apply_all (waiting c.queue) c.core.voice) (emptied c.queue) (counts accepted (changes_in writes (bytes_of c)) (restarts_in writes))) (flush_leaves c.core.voice c.queue (counts out_of_range 0 0))) c
    ≡ applied writes c (cond ok (answered accepted (flushed c)) (answered out_of_range c))
flush-same true c writes = refl
flush-same false c writes = refl

pub flush-set : (c : Chip) → with-flush (flush_step (chip_in c) c.core.voice c.queue) c ≡ flushed_pending_writes c
unfolding flush_step flush_pending_writes flushed_pending_writes
flush-set c = flush-same (chip_in c) c (register_writes (waiting c.queue))

pub cycle-said : (c : Chip) → cycle_said (chip_in c) c.core.stamp ≡ cpu_cycle c
unfolding cycle_said cpu_cycle
cycle-said c = refl

pub count-said : (c : Chip) → count_said (chip_in c) c.queue.count ≡ pending_write_count c
unfolding count_said pending_write_count
count-said c = refl
