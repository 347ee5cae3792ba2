-- What a flush stores in a lent record is what the call tells.
use Rattle.std.proofs.Common.{◌≡◌, ◌∙◌, refl, ap, Bool, true, false}
use Rattle.chip.specs.Range.{chip_in}
use Rattle.answers.specs.declared.Applied.{Applied}
use Rattle.steps_queue.specs.QueueSteps.{flush_step}
use Rattle.calls_cycles.specs.Cycles.{flushed_pending_writes}
use Rattle.calls_cycles.proofs.Stepped.{flush-set, with-flush}
use Rattle.c_record.specs.declared.Record.{Record}
use Rattle.c_record.specs.Record.{chip_of, core_of, record_core}
use Rattle.c_told.specs.Told.{lent_back, told_counts}
use Rattle.c_calls.specs.Calls.{apply_on}
use Rattle.steps_queue.specs.declared.FlushStep.{FlushStep}
use Rattle.c_steps.specs.declared.RecordStep.{RecordStep}
use Rattle.c_steps.specs.RecordSteps.{settled}
use Rattle.c_queue.specs.RecordQueue.{record_flushed}
use Rattle.c_interface.specs.Parts.{drums_in}

abbrev pub stored : Record → RecordStep FlushStep → Record
stored x r =
    let d = r.drums in
    record {
      core = record x.core { voice = r.step.voice; a = record x.core.a { drum = d.a }; b = record x.core.b { drum = d.b }; c = record x.core.c { drum = d.c } };
      queue = record x.queue { head = r.step.head; count = r.step.count };
    }

-- the step's, by the record's test
abbrev pub flushed_by : Bool → Record → RecordStep FlushStep
flushed_by ok x = record_flushed (drums_in x) (flush_step ok x.core.voice x.queue)

by-test : (ok : Bool) (x : Record) → stored x (flushed_by ok x) ≡ (told_counts x (with-flush (flush_step ok x.core.voice x.queue) (chip_of x))).chip
unfolding flush_step lent_back settled core_of record_core
by-test true x = refl
by-test false x = refl

pub flush-told : (x : Record) → (flushed_by (chip_in (chip_of x)) x).step.answer ≡ (apply_on flushed_pending_writes x).answer
unfolding core_of
flush-told x = ap (λ (r : Applied). r.answer) (flush-set (chip_of x))

pub flush-left : (x : Record) → stored x (flushed_by (chip_in (chip_of x)) x) ≡ (apply_on flushed_pending_writes x).chip
unfolding core_of
flush-left x = by-test (chip_in (chip_of x)) x ∙ ap (λ (r : Applied). (told_counts x r).chip) (flush-set (chip_of x))
